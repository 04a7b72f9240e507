use Rattle.std.proofs.Common.{ℕ, ◌-◌}
use Rattle.std.specs.List.{flat_map, range_with_len}
use Rattle.ele_output.specs.Prints.{outlet}
use Rattle.ele_forecast_forms.specs.Compared.{plan_staying, stayings_text}
use Rattle.ele_output.proofs.Known.{HasPut}
use Rattle.ele_forecast_forms.proofs.stayings.put_stayings.Given as goal

-- the moments so far are put, and the others are left
abbrev pub invariant-loop-place : goal.invariant-loop-place
invariant-loop-place g l =
    HasPut (outlet g.W.Write.contents l.fn.printer) (outlet g.W.Write.contents l.printer) (stayings_text l.details l.plans l.moments) (flat_map (λ (place : ℕ). flat_map (plan_staying l.details place) l.plans) (range_with_len l.place (l.moments - l.place)))
