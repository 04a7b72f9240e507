use Rattle.std.proofs.lemmas.Result.{IfOk-weaker}
use Rattle.ele_invocation.proofs.Builders.{adds_arg}
use Rattle.ele_invocation.proofs.forecast.plain_forecast.Goals as goal

pub returns : goal.returns
returns c =
    let one = adds_arg c.in_ok-asked.ensures c.flag.ensures c.in_ok-arg.ensures in
    let two = adds_arg one c.flag-2.ensures c.in_ok-arg-2.ensures in
    let three = adds_arg two c.option.ensures c.in_ok-arg-3.ensures in
    let four = adds_arg three c.flag-3.ensures c.in_ok-arg-4.ensures in
    let five = adds_arg four c.option-2.ensures c.in_ok-arg-5.ensures in
    let six = adds_arg five c.flag-4.ensures c.in_ok-arg-6.ensures in
    IfOk-weaker c.arg-7.result _ _ (λ command added. adds_arg six c.flag-5.ensures added) c.arg-7.ensures
