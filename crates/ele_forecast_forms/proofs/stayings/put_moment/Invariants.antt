use Rattle.std.specs.Prelude.{drop}
use Rattle.std.specs.List.{flat_map}
use Rattle.ele_output.specs.Prints.{outlet}
use Rattle.ele_forecast_forms.specs.Compared.{plan_staying}
use Rattle.ele_output.proofs.Known.{HasPut}
use Rattle.ele_forecast_forms.proofs.stayings.put_moment.Given as goal

-- those so far are put, and the others are left
abbrev pub invariant-loop-plan : goal.invariant-loop-plan
invariant-loop-plan g l =
    HasPut (outlet g.W.Write.contents l.fn.printer) (outlet g.W.Write.contents l.printer) (flat_map (plan_staying l.details l.place) l.plans) (flat_map (plan_staying l.details l.place) (drop l.plan-index l.plans))
