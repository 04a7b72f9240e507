use Rattle.ele_well_formed.proofs.Words.{AllByRecursion, nat_cmp, take}
use Rattle.std.specs.BTreeMap.{btree_map_len, get}
use Rattle.std.specs.BTreeSet.{contains}
use Rattle.ele_well_formed.specs.Fault.{IsHung}
use Rattle.ele_well_formed.proofs.Climbs.{IsLeft, IsWalk}
use Rattle.ele_well_formed.proofs.tree.cyclic_name.Given as goal

abbrev pub invariant-loop-at : goal.invariant-loop-at
invariant-loop-at l = record {
  left : IsLeft l.names (get nat_cmp l.above);
  hung : AllByRecursion (IsHung l.names) (take l.at l.names);
}

abbrev pub invariant-loop-parent : goal.invariant-loop-parent
invariant-loop-parent l = IsWalk l.names (get nat_cmp l.above) (contains nat_cmp l.passed) l.initial.directory l.directory

abbrev pub decreases-loop-parent : goal.decreases-loop-parent
decreases-loop-parent l = btree_map_len l.above
