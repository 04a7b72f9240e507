-- Versions one after the other, from each to the one right after it.
use Rattle.ele_well_formed.proofs.Words.{ArePlaced, IsSpan, VersionRow, arith, is_version_after, nat_tests, true, ◌≡◌, ◌≤◌}

-- a file between two of one number has it too
between : (z y x : VersionRow) → is_version_after z.file z.number y ≡ true → is_version_after y.file y.number x ≡ true → z.file ≡ x.file → (z.file ≡ y.file) × (y.file ≡ x.file)
between z y x one other same = grind (arith, nat_tests)

after_on : (z y x : VersionRow) → is_version_after z.file z.number y ≡ true → is_version_after y.file y.number x ≡ true → is_version_after z.file z.number x ≡ true
after_on z y x one other = grind (arith, nat_tests)

pub placed_on : (z y x : VersionRow) → IsSpan y → ArePlaced y x → ArePlaced z y → ArePlaced z x
placed_on z y x span next before = record {
  after = after_on z y x before.after next.after;
  ended = λ same.
      let files = between z y x before.after next.after same in
      let first = before.ended files.0 in
      let second = next.ended files.1 in
      let order : y.closed ≤ second.0 = rw second.1 at span in
      (first.0, first.1, omega (arith, first.2, order, second.2));
}
