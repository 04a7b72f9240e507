use Rattle.std.specs.Prelude.{◌∷◌, drop, map}
use Rattle.std.specs.List.{flat_map, join_with_byte}
use Rattle.ele_forecast_text.specs.declared.staying.Staying.{Staying}
use Rattle.ele_forecast_forms.specs.Json.{staying_text}
use Rattle.ele_output.specs.Prints.{outlet}
use Rattle.ele_output.proofs.Known.{HasPut}
use Rattle.ele_forecast_forms.proofs.json.put_at_moments.Given as goal

-- the texts so far are put, and the others are left
abbrev pub invariant-loop-staying : goal.invariant-loop-staying
invariant-loop-staying g l =
    HasPut (outlet g.W.Write.contents l.fn.printer) (outlet g.W.Write.contents l.printer) (join_with_byte 44 (map (λ (staying : Staying). staying_text l.details staying) l.stayings)) (flat_map (λ (staying : Staying). 44 ∷ staying_text l.details staying) (drop l.staying-index l.rest))
