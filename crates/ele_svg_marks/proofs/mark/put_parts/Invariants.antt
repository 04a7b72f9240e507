use Rattle.std.proofs.Common.{List, ℕ, drop}
use Rattle.std.specs.Borrow.{Bor}
use Rattle.std.specs.List.{flat_map}
use Rattle.ele_output.specs.Prints.{outlet}
use Rattle.ele_output.proofs.Known.{HasPut}
use Rattle.ele_svg_marks.proofs.mark.put_parts.Given as goal

-- the parts so far are put, and the others are left
abbrev pub invariant-loop-part : goal.invariant-loop-part
invariant-loop-part g l =
    HasPut (outlet g.W.Write.contents l.fn.printer) (outlet g.W.Write.contents l.printer) (flat_map (λ (part : Bor (List ℕ)). part.now) l.parts) (flat_map (λ (part : Bor (List ℕ)). part.now) (drop l.part-index l.parts))
