use Rattle.ele_groups.proofs.Basics.{◌≡◌, take}
use Rattle.ele_groups.proofs.Covered.{at_all}
use Rattle.ele_groups.proofs.covering.cover.Given as goal

abbrev pub invariant-loop-membership : goal.invariant-loop-membership
invariant-loop-membership l = l.cover ≡ at_all l.span.except l.fn.file l.span.closed l.span.ended l.rows.entries (take l.membership-index l.membership-items)
