-- The first key of the scan is that of a due row.
use Rattle.ele_model.proofs.Basics.{nat_tests, arith, ◌≡◌, ℕ, true, false, List, [], ◌∷◌, Option, Some, find, is_none, IfSome, nat_le, option_map_or, slice_get, fold, insert_key, AllByRecursion, filter_map, false≢true, AllLater}
use Rattle.ele_model.proofs.Words.{Key, VersionRow, ripe_of, file_view, is_protected, is_marked, key_cmp, first_due, ArePlaced, World, is_open, is_version}
use Rattle.ele_model.specs.Due.{is_due_at}
use Rattle.ele_model.specs.Scan.{due_key, scan}
use Rattle.ele_model.proofs.GroupMarks.{marks_tell}
use Rattle.ele_model.proofs.Readers.{numbers_are}
use Rattle.ele_model.proofs.Versions.{IsFound, all_found}

-- the key is that of a held row that is due
pub record IsDueKey (w : World) (key : Key) : Type 0 where
  pub row : VersionRow
  pub found : find (is_version key.file key.number) w.versions ≡ Some row
  pub due : is_due_at w row w.now ≡ true
  pub ripe : ripe_of w row ≡ Some key.ripe

pub all-filter_map : {X Y : Type 0} (P : X → Type 0) (Q : Y → Type 0) (h : X → Option Y) → ((x : X) (y : Y) → P x → h x ≡ Some y → Q y) → (xs : List X) → AllByRecursion P xs → AllByRecursion Q (filter_map h xs)
all-filter_map P Q h gives [] all = tt
all-filter_map {X} {Y} P Q h gives (x ∷ xs) all = grind (arith, nat_tests, all-filter_map P Q h gives xs all.1)

-- what holds of all keys holds of the first in their order
first_held : (Q : Key → Type 0) (sorted keys : List Key) → IfSome (slice_get sorted 0) Q → AllByRecursion Q keys → IfSome (slice_get (fold (insert_key key_cmp) sorted keys) 0) Q
first_held Q sorted [] before all = before
first_held Q [] (x ∷ xs) before all = first_held Q (x ∷ []) xs all.0 all.1
first_held Q (y ∷ ys) (x ∷ xs) before all = grind (arith, nat_tests, first_held Q (insert_key key_cmp (y ∷ ys) x) xs)

pub first_is_due : (w : World) (key : Key) → AllLater ArePlaced w.versions → first_due w ≡ Some key → IsDueKey w key
unfolding scan due_key
first_is_due w key placed h = rw h at (first_held (IsDueKey w) [] (filter_map (due_key w) w.versions) tt (all-filter_map (IsFound w.versions) (IsDueKey w) (due_key w) (λ row key found is. grind (arith, nat_tests)) w.versions (all_found w.versions placed)))

-- and it is no later than each of them
abbrev pub IsFirst : Option Key → Key → Type 0
IsFirst first key = option_map_or (λ f. nat_le f.ripe key.ripe) first false ≡ true

first_least : (sorted keys : List Key) → IfSome (slice_get sorted 0) (IsFirst (slice_get (fold (insert_key key_cmp) sorted keys) 0)) × AllByRecursion (IsFirst (slice_get (fold (insert_key key_cmp) sorted keys) 0)) keys
first_least [] [] = (tt, tt)
first_least (y ∷ ys) [] = (grind (arith, nat_tests), tt)
first_least [] (x ∷ xs) = (tt, first_least (x ∷ []) xs)
first_least (y ∷ ys) (x ∷ xs) = grind (arith, nat_tests, first_least (insert_key key_cmp (y ∷ ys) x) xs)

all-unmapped : {X Y : Type 0} (Q : Y → Type 0) (h : X → Option Y) (xs : List X) → AllByRecursion Q (filter_map h xs) → AllByRecursion (λ x. IfSome (h x) Q) xs
all-unmapped Q h [] all = tt
all-unmapped {X} {Y} Q h (x ∷ xs) all = grind (arith, nat_tests, all-unmapped Q h xs)

pub first_of_rows : (w : World) → AllByRecursion (λ row. IfSome (due_key w row) (IsFirst (first_due w))) w.versions
unfolding scan
first_of_rows w = all-unmapped (IsFirst (first_due w)) (due_key w) w.versions (first_least [] (filter_map (due_key w) w.versions)).1

-- what is due has ended
pub due_has_ended : (w : World) (row : VersionRow) (at : ℕ) → is_due_at w row at ≡ true → is_none row.ended ≡ false
unfolding is_due_at
due_has_ended w row at h = grind (arith, nat_tests, false≢true)

-- and isn't protected
due_is_free : (w : World) (row : VersionRow) (at : ℕ) → is_due_at w row at ≡ true → is_protected (file_view w row.file) row at ≡ false
unfolding is_due_at
due_is_free w row at h = grind (arith, nat_tests, false≢true)

-- so it isn't open
pub due_is_unread : (w : World) (row : VersionRow) (at : ℕ) → is_due_at w row at ≡ true → is_open w.handles row.file row.number ≡ false
due_is_unread w row at h = grind (arith, nat_tests, due_is_free w row at h, numbers_are w.handles row.file row.number)

-- and no mark in force of a group that has its file covers it
pub due_is_unmarked : (w : World) (row : VersionRow) (at : ℕ) → is_due_at w row at ≡ true → is_marked w.groups row.file row.closed row.ended at ≡ false
due_is_unmarked w row at h = grind (arith, nat_tests, due_is_free w row at h, marks_tell w.groups row.file row.closed row.ended at)
