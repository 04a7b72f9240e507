use Rattle.std.proofs.lemmas.Result.{IfOk-weaker}
use Rattle.ele_invocation.proofs.Builders.{adds_command}
use Rattle.ele_invocation.proofs.invocation.whole_program.Goals as goal

pub returns : goal.returns
returns c =
    let one = adds_command c.program.ensures c.in_ok-run.ensures c.in_ok-subcommand.ensures in
    let two = adds_command one c.in_ok-storm.ensures c.in_ok-subcommand-2.ensures in
    let three = adds_command two c.in_ok-forecast.ensures c.in_ok-subcommand-3.ensures in
    let four = adds_command three c.command_of.ensures c.in_ok-subcommand-4.ensures in
    let five = adds_command four c.command_of-2.ensures c.in_ok-subcommand-5.ensures in
    IfOk-weaker c.subcommand-6.result _ _ (λ command added. adds_command five c.command_of-3.ensures added) c.subcommand-6.ensures
