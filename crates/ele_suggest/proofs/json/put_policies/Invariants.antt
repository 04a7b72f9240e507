use Rattle.std.specs.Prelude.{◌∷◌, drop, map}
use Rattle.std.specs.List.{flat_map, join_with_byte}
use Rattle.ele_output.specs.Prints.{outlet}
use Rattle.ele_output.proofs.Known.{HasPut}
use Rattle.ele_suggest.specs.SuggestedJson.{weighed_json}
use Rattle.ele_suggest.specs.declared.weighed.Weighed.{Weighed}
use Rattle.ele_suggest.proofs.json.put_policies.Given as goal

-- the policies so far are put, and the others are left
abbrev pub invariant-loop-other : goal.invariant-loop-other
invariant-loop-other g l =
    HasPut (outlet g.W.Write.contents l.fn.printer) (outlet g.W.Write.contents l.printer) (join_with_byte 44 (map (λ (one : Weighed). weighed_json l.sizes one) l.weighed)) (flat_map (λ (one : Weighed). 44 ∷ weighed_json l.sizes one) (drop l.other-index l.rest))
