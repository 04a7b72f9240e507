use Rattle.ele_well_formed.proofs.Words.{AllLater, false, list_any, nat_cmp, take, ℕ, ◌==◌, ◌≡◌}
use Rattle.std.specs.BTreeSet.{contains}
use Rattle.ele_well_formed.proofs.sets.are_different.Given as goal

abbrev pub invariant-loop-at : goal.invariant-loop-at
invariant-loop-at l = record {
  seen : (q : ℕ) → contains nat_cmp l.seen q ≡ list_any (λ n. n == q) (take l.at l.numbers);
  apart : AllLater (λ x y. (x == y) ≡ false) (take l.at l.numbers);
}
