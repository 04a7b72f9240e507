use Rattle.std.proofs.Common.{List, sym, subst}
use Rattle.std.specs.Prelude.{IfOk}
use Rattle.clap.specs.Words.{Shape}
use Rattle.ele_invocation.specs.Built.{HasApp}
use Rattle.ele_invocation.specs.Program.{program_app}
use Rattle.ele_invocation.proofs.Simple.{other_word}
use Rattle.ele_invocation.proofs.invocation.command.Goals as goal

pub returns-in_default : goal.returns-in_default
returns-in_default c =
    subst (λ (commands : List Shape). IfOk c.whole_program.result (HasApp (program_app commands)))
    (sym (other_word c.args.first.now c.in_default.not-run c.in_default.not-storm c.in_default.not-forecast)) c.whole_program.ensures
