use Rattle.ele_well_formed.proofs.Words.{list_any, nat_cmp, take, ℕ, ◌==◌, ◌≡◌}
use Rattle.std.specs.BTreeSet.{contains}
use Rattle.ele_well_formed.proofs.sets.set_of.Given as goal

abbrev pub invariant-loop-number : goal.invariant-loop-number
invariant-loop-number l = (q : ℕ) → contains nat_cmp l.set q ≡ list_any (λ n. n == q) (take l.number-index l.numbers)
