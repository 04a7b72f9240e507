use Rattle.ele_well_formed.proofs.Words.{nat_cmp, take, ℕ, ◌≡◌}
use Rattle.std.specs.BTreeMap.{get}
use Rattle.ele_well_formed.specs.Means.{parent_of}
use Rattle.ele_well_formed.proofs.tree.parents.Given as goal

abbrev pub invariant-loop-row : goal.invariant-loop-row
invariant-loop-row l = (q : ℕ) → get nat_cmp l.above q ≡ parent_of (take l.row-index l.names) q
