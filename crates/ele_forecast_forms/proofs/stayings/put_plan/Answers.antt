use Rattle.std.proofs.Common.{◌≤◌, ap, arith, length}
use Rattle.std.proofs.lemmas.Option.{slice_get_past}
use Rattle.ele_forecast_forms.proofs.Words.{no_line}
use Rattle.ele_forecast_forms.proofs.stayings.put_plan.Goals as goal

pub returns-in_default : goal.returns-in_default
returns-in_default g c =
    let past : length c.args.plan.now.stayings.items ≤ c.args.place = omega (arith, c.in_default.ensures.lookup.3, ap length c.deref.ensures.value) in
    no_line _ c.args.details.now c.args.plan.now.word.items _ (slice_get_past c.args.plan.now.stayings.items c.args.place past)
