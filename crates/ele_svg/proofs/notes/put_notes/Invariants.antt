use Rattle.std.proofs.Common.{◌≡◌}
use Rattle.std.specs.Prelude.{drop}
use Rattle.ele_output.specs.Prints.{outlet}
use Rattle.ele_svg.specs.Key.{place_after}
use Rattle.ele_svg.specs.Notes.{notes_drawn, plan_noted}
use Rattle.ele_svg_marks.specs.Walk.{walked}
use Rattle.ele_output.proofs.Known.{HasPut}
use Rattle.ele_svg.proofs.notes.put_notes.Given as goal

-- those of the policies so far are put, and the others are left
abbrev pub invariant-loop-plan : goal.invariant-loop-plan
invariant-loop-plan g l =
    (l.place ≡ l.plan-index)
    × HasPut (outlet g.W.Write.contents l.fn.printer) (outlet g.W.Write.contents l.printer) (notes_drawn l.page l.plans) (walked (plan_noted l.page) place_after l.place (drop l.plan-index l.plans))
