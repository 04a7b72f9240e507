use Rattle.std.proofs.lemmas.Result.{IfOk-weaker}
use Rattle.ele_invocation.proofs.Builders.{adds_arg}
use Rattle.ele_invocation.proofs.forecast.forecast.Goals as goal

pub returns : goal.returns
returns c =
    let one = adds_arg c.in_ok-plain_forecast.ensures c.option.ensures c.in_ok-arg.ensures in
    let two = adds_arg one c.flag.ensures c.in_ok-arg-2.ensures in
    let three = adds_arg two c.option-2.ensures c.in_ok-arg-3.ensures in
    let four = adds_arg three c.option-3.ensures c.in_ok-arg-4.ensures in
    IfOk-weaker c.arg-5.result _ _ (λ command added. adds_arg four c.option-4.ensures added) c.arg-5.ensures
