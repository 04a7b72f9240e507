use Rattle.ele_groups.proofs.Basics.{◌≡◌, take, values_of}
use Rattle.ele_groups.proofs.Words.{AreKept}
use Rattle.ele_groups.proofs.groups.Groups.from_rows.Given as goal

abbrev pub invariant-loop-row : goal.invariant-loop-row
invariant-loop-row l = record {
  kept : AreKept l.named.entries l.memberships;
  rows : values_of l.named.entries ≡ take l.row-index l.rows;
}
