use Rattle.std.specs.Prelude.{drop, ℕ}
use Rattle.std.specs.List.{flat_map}
use Rattle.ele_output.specs.Prints.{outlet}
use Rattle.ele_svg.specs.Rows.{kept_marks}
use Rattle.ele_svg_marks.specs.Mark.{mark_text}
use Rattle.ele_output.proofs.Known.{HasPut}
use Rattle.ele_svg.proofs.rows.put_kept_at.Given as goal

-- those so far are put, and the others are left
abbrev pub invariant-loop-number : goal.invariant-loop-number
invariant-loop-number g l =
    HasPut (outlet g.W.Write.contents l.fn.printer) (outlet g.W.Write.contents l.printer) (flat_map (λ (number : ℕ). flat_map mark_text (kept_marks l.page l.at number)) l.numbers) (flat_map (λ (number : ℕ). flat_map mark_text (kept_marks l.page l.at number)) (drop l.number-index l.numbers))
