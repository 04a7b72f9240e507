use Rattle.ele_well_formed.proofs.Words.{AllLater, AreNamesApart, GroupRow, List, bytes_eq, list_any, nat_cmp, take, ℕ, ◌≡◌}
use Rattle.std.specs.BTreeSet.{contains}
use Rattle.std.specs.Cmp.Lexicographic.{slice_cmp}
use Rattle.ele_well_formed.proofs.groups.second_group.Given as goal

abbrev pub invariant-loop-at : goal.invariant-loop-at
invariant-loop-at l = record {
  seen : (q : List ℕ) → contains (slice_cmp nat_cmp) l.seen q ≡ list_any (λ (row : GroupRow). bytes_eq row.name q) (take l.at l.rows);
  apart : AllLater AreNamesApart (take l.at l.rows);
}
