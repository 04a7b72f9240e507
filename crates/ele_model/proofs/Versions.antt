-- Version rows apart and in their order.
use Rattle.ele_model.proofs.Basics.{◌≡◌, ℕ, ◌+◌, ◌-◌, ◌≤◌, true, false, List, [], ◌∷◌, Some, arith, find, AllByRecursion, nat_tests, update_first, AllLater, all-weaker, all-both}
use Rattle.ele_model.proofs.Words.{FileRow, VersionRow, ended_at, IsVersion, ArePlaced, is_version, next_of}

-- a later row isn't the earlier one
pub apart : (x y : VersionRow) → ArePlaced x y → is_version y.file y.number x ≡ false
apart x y placed = let after = placed.after in grind (arith, nat_tests)

abbrev pub IsFound : List VersionRow → VersionRow → Type 0
IsFound rows row = find (is_version row.file row.number) rows ≡ Some row

-- each row is the one that is found by its file and number
pub all_found : (rows : List VersionRow) → AllLater ArePlaced rows → AllByRecursion (IsFound rows) rows
all_found [] placed = tt
all_found (x ∷ xs) placed = grind (arith, nat_tests, all-weaker (λ y. ArePlaced x y × IsFound xs y) (IsFound (x ∷ xs)) xs, apart, all-both (ArePlaced x) (IsFound xs) xs, all_found xs)

-- the row has ended by then
pub record IsEndedBy (now : ℕ) (row : VersionRow) : Type 0 where
  pub ended : ℕ
  pub is : row.ended ≡ Some ended
  pub by_now : ended ≤ now

-- of a file's rows all but the last have ended
pub other_ended : (files : List FileRow) (now : ℕ) (row : VersionRow) → IsVersion files now row → (row.number + 1 ≡ next_of files row.file → ⊥) → IsEndedBy now row
other_ended files now row h not_last = grind (arith, nat_tests)

-- after the last there is none of the file
none_later : (files : List FileRow) (now file : ℕ) (x : VersionRow) (xs : List VersionRow) → is_version file (next_of files file - 1) x ≡ true → AllByRecursion (ArePlaced x) xs → AllByRecursion (IsVersion files now) xs → AllByRecursion (λ row. row.file ≡ file → IsEndedBy now row) xs
none_later files now file x xs e placed all = all-weaker (λ y. ArePlaced x y × IsVersion files now y) (λ row. row.file ≡ file → IsEndedBy now row) xs (λ y h same. absurd (grind (arith, nat_tests))) (all-both (ArePlaced x) (IsVersion files now) xs placed all)

-- once the last has ended all of the file have
pub file_ended : (files : List FileRow) (now file : ℕ) (rows : List VersionRow) → AllLater ArePlaced rows → AllByRecursion (IsVersion files now) rows → AllByRecursion (λ row. row.file ≡ file → IsEndedBy now row) (update_first (is_version file (next_of files file - 1)) (ended_at now) rows)
file_ended files now file [] placed all = tt
file_ended files now file (x ∷ xs) placed all = grind (arith, nat_tests, all.0.ended, other_ended files now x all.0, none_later files now file x xs, file_ended files now file xs placed.1 all.1)
