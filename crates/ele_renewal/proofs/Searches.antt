-- Binary searches: the place that one finds is how many rows come before.
use Rattle.ele_lists.proofs.Alls.{later-place}
use Rattle.ele_renewal.proofs.Words.{AllLater, ArePlaced, Bool, List, VersionRow, [], arith, false, filter, get_or, is_before, is_version, length, list_any, ltb, nat_lt, nat_tests, new_version, not, refl, suc, true, zero, ℕ, ◌+◌, ◌<◌, ◌==◌, ◌∷◌, ◌≡◌, ◌≤◌, AllByRecursion, option_map_or, slice_get}
use Rattle.ele_renewal.specs.Writers.{comes_before}
use Rattle.std.specs.List.Sorted.{IsPartitionPoint, IsPartitionedBy}

module _ {X : Type 0} (p : X → Bool) where
  none_before : (xs : List X) → ((k : ℕ) (d : X) → k < length xs → p (get_or xs k d) ≡ false) → length (filter p xs) ≡ 0
  none_before [] fails = refl
  none_before (x ∷ xs) fails =
      let here : p x ≡ false = fails 0 x (omega arith) in
      rw here (none_before xs (λ k d lt. fails (suc k) d (omega arith)))

  pub cut_count : (xs : List X) (at : ℕ) → at ≤ length xs → IsPartitionPoint (λ x. p x ≡ true) (λ x. p x ≡ false) xs at → length (filter p xs) ≡ at
  cut_count [] at within cut = omega arith
  cut_count (x ∷ xs) zero within cut = none_before (x ∷ xs) (λ k d lt. cut.1 k d (omega arith) lt)
  cut_count (x ∷ xs) (suc at) within cut =
      let here : p x ≡ true = cut.0 0 x (omega arith) (omega arith) in
      let rest = cut_count xs at (omega arith) ((λ k d lo hi. cut.0 (suc k) d (omega arith) (omega arith)), (λ k d lo hi. cut.1 (suc k) d (omega arith) (omega arith))) in
      rw here (omega (arith, rest))

module _ (file number : ℕ) where
  pub versions_parted : (rows : List VersionRow) → AllLater ArePlaced rows → IsPartitionedBy (comes_before file number) rows
  versions_parted rows later = λ i j d le lt h. grind (arith, nat_tests, later-place ArePlaced rows i j d later)

  -- the versions before one are those of earlier files and the earlier ones of its file
  pub before_split : (rows : List VersionRow) → length (filter (comes_before file number) rows) ≡ length (filter (λ row. ltb row.file file) rows) + length (filter (is_before file number) rows)
  before_split [] = omega arith
  before_split (x ∷ xs) = grind (arith, nat_tests, before_split xs)

  -- a version is held if it is one more
  one_more : (rows : List VersionRow) → length (filter (is_before file (number + 1)) rows) ≡ length (filter (is_before file number) rows) + length (filter (is_version file number) rows)
  one_more [] = omega arith
  one_more (x ∷ xs) = grind (arith, nat_tests, one_more xs)

any_some : {X : Type 0} (p : X → Bool) (xs : List X) → list_any p xs ≡ nat_lt 0 (length (filter p xs))
any_some p [] = refl
any_some p (x ∷ xs) = grind (arith, nat_tests, any_some p xs)

pub lost_if_same : (rows : List VersionRow) (file last next : ℕ) → next ≡ last + 1 → (new_version rows file last == new_version rows file next) ≡ not (list_any (is_version file last) rows)
lost_if_same rows file last next is = rw is (grind (arith, nat_tests, one_more file last rows, any_some (is_version file last) rows))

pub files_parted : (file : ℕ) (rows : List VersionRow) → AllLater ArePlaced rows → IsPartitionedBy (λ row. ltb row.file file) rows
files_parted file rows later = λ i j d le lt h. grind (arith, nat_tests, later-place ArePlaced rows i j d later)

-- ---- a row that is there is at the cut

module _ {X : Type 0} (R : X → X → Type 0) (before is : X → Bool) (apart : (x : X) → before x ≡ true → is x ≡ false) (past : (x y : X) → R x y → before x ≡ false → is y ≡ false) where
  none_past : (x : X) (xs : List X) → before x ≡ false → AllByRecursion (R x) xs → list_any is xs ≡ false
  none_past x [] here all = refl
  none_past x (y ∷ ys) here all = rw (past x y all.0 here) (none_past x ys here all.1)

  pub any_at_cut : (xs : List X) (at : ℕ) → AllLater R xs → IsPartitionPoint (λ x. before x ≡ true) (λ x. before x ≡ false) xs at → list_any is xs ≡ option_map_or is (slice_get xs at) false
  any_at_cut [] at later cut = refl
  any_at_cut (x ∷ xs) zero later cut =
      let here : before x ≡ false = cut.1 0 x (omega arith) (omega arith) in
      let none : list_any is xs ≡ false = none_past x xs here later.0 in
      grind (arith, nat_tests, none)
  any_at_cut (x ∷ xs) (suc at) later cut =
      let here : before x ≡ true = cut.0 0 x (omega arith) (omega arith) in
      rw (apart x here) (any_at_cut xs at later.1 ((λ k d lo hi. cut.0 (suc k) d (omega arith) (omega arith)), (λ k d lo hi. cut.1 (suc k) d (omega arith) (omega arith))))

pub key_at_cut : {X : Type 0} (key : X → ℕ) (id : ℕ) (xs : List X) (at : ℕ) → AllLater (λ x y. key x < key y) xs → IsPartitionPoint (λ x. ltb (key x) id ≡ true) (λ x. ltb (key x) id ≡ false) xs at → list_any (λ x. key x == id) xs ≡ option_map_or (λ x. key x == id) (slice_get xs at) false
key_at_cut key id xs at later cut = any_at_cut (λ x y. key x < key y) (λ x. ltb (key x) id) (λ x. key x == id) (λ x lt. grind (arith, nat_tests, lt)) (λ x y less past. grind (arith, nat_tests, less, past)) xs at later cut

pub version_at_cut : (file number : ℕ) (rows : List VersionRow) (at : ℕ) → AllLater ArePlaced rows → IsPartitionPoint (λ x. comes_before file number x ≡ true) (λ x. comes_before file number x ≡ false) rows at → list_any (is_version file number) rows ≡ option_map_or (is_version file number) (slice_get rows at) false
version_at_cut file number rows at later cut = any_at_cut ArePlaced (comes_before file number) (is_version file number) (λ x before. grind (arith, nat_tests, before)) (λ x y placed past. let after = placed.after in grind (arith, nat_tests, after, past)) rows at later cut
