use Rattle.ele_well_formed.proofs.Words.{AllLater, AreOthers, is_live_directory, list_any, nat_cmp, take, ℕ, ◌≡◌}
use Rattle.std.specs.BTreeSet.{contains}
use Rattle.ele_well_formed.proofs.homes.second_name.Given as goal

abbrev pub invariant-loop-at : goal.invariant-loop-at
invariant-loop-at l = record {
  seen : (q : ℕ) → contains nat_cmp l.seen q ≡ list_any (is_live_directory q) (take l.at l.names);
  others : AllLater AreOthers (take l.at l.names);
}
