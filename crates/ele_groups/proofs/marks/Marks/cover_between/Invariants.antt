use Rattle.ele_groups.proofs.Basics.{◌≡◌, ◌≤◌, ◌+◌, ◌-◌, ◌==◌, ◌||◌, nat_le, true, Some}
use Rattle.ele_groups.proofs.Words.{cover_by, last_moment}
use Rattle.ele_groups.proofs.marks.Marks.cover_between.Given as goal

abbrev pub invariant-loop-mark : goal.invariant-loop-mark
invariant-loop-mark l = (l.cover ≡ cover_by l.from (Some l.next) l.self) × (l.from ≤ l.next) × ((nat_le l.next l.until || (l.next == l.from)) ≡ true)

abbrev pub decreases-loop-mark : goal.decreases-loop-mark
decreases-loop-mark l = (last_moment + 2) - l.next
