use Rattle.std.specs.Prelude.{◌∷◌, drop, map}
use Rattle.std.specs.List.{flat_map, join_with_byte}
use Rattle.ele_output.specs.Prints.{outlet}
use Rattle.ele_output.proofs.Known.{HasPut}
use Rattle.ele_space.specs.Removals.{removal_json}
use Rattle.ele_space.specs.declared.removals.Removals.{Removals}
use Rattle.ele_space.proofs.json.put_all.Given as goal

-- the texts so far are put, and the others are left
abbrev pub invariant-loop-removal : goal.invariant-loop-removal
invariant-loop-removal g l =
    HasPut (outlet g.W.Write.contents l.fn.printer) (outlet g.W.Write.contents l.printer) (join_with_byte 44 (map (λ (removal : Removals). removal_json l.details removal) l.removals)) (flat_map (λ (removal : Removals). 44 ∷ removal_json l.details removal) (drop l.removal-index l.rest))
