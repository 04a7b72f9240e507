use Rattle.ele_groups.proofs.Basics.{◌≡◌, ◌≤◌, ◌+◌, ◌-◌, Some}
use Rattle.ele_groups.proofs.Words.{cover_by, last_moment}
use Rattle.ele_groups.proofs.marks.Marks.cover_from.Given as goal

abbrev pub invariant-loop-mark : goal.invariant-loop-mark
invariant-loop-mark l = (l.cover ≡ cover_by l.from (Some l.next) l.self) × (l.from ≤ l.next)

abbrev pub decreases-loop-mark : goal.decreases-loop-mark
decreases-loop-mark l = (last_moment + 2) - l.next
