-- A binary search among versions in order.
use Rattle.ele_well_formed.proofs.Words.{AllByRecursion, AllLater, ArePlaced, Bool, IsPartitionPoint, IsPartitionedBy, List, None, Option, Some, VersionRow, [], arith, false, find, is_before, is_some, is_version, later-place, list_any, nat_tests, option_copied, refl, slice_get, suc, true, zero, ℕ, ◌∷◌, ◌≡◌}
use Rattle.std.specs.Borrow.{Bor}
use Rattle.std.specs.Option.{MatchOption}

-- whether a row is found
pub any_is_found : {X : Type 0} (p : X → Bool) (xs : List X) → list_any p xs ≡ is_some (find p xs)
any_is_found p [] = refl
any_is_found p (x ∷ xs) = grind (arith, nat_tests, any_is_found p xs)

module _ (file number : ℕ) where
  pub versions_parted : (rows : List VersionRow) → AllLater ArePlaced rows → IsPartitionedBy (is_before file number) rows
  versions_parted rows later = λ i j d le lt h. grind (arith, nat_tests, later-place ArePlaced rows i j d later)

  -- none follows a version that doesn't come before
  none_after : (x : VersionRow) (xs : List VersionRow) → is_before file number x ≡ false → AllByRecursion (ArePlaced x) xs → list_any (is_version file number) xs ≡ false
  none_after x [] fails all = refl
  none_after x (y ∷ ys) fails all = let after = all.0.after in grind (arith, nat_tests, after, none_after x ys fails all.1)

  -- the version at the cut is the one, or none is
  abbrev IsCutAt : List VersionRow → ℕ → Type 0
  IsCutAt rows at = IsPartitionPoint (λ x. is_before file number x ≡ true) (λ x. is_before file number x ≡ false) rows at

  pub version_at_cut : (rows : List VersionRow) (at : ℕ) → AllLater ArePlaced rows → IsCutAt rows at → MatchOption (slice_get rows at) (list_any (is_version file number) rows ≡ false) (λ row. is_version file number row ≡ list_any (is_version file number) rows)
  version_at_cut [] at later cut = refl
  version_at_cut (x ∷ xs) zero later cut =
      let here : is_before file number x ≡ false = cut.1 0 x (omega arith) (omega arith) in
      grind (arith, nat_tests, none_after x xs here later.0)
  version_at_cut (x ∷ xs) (suc at) later cut =
      let here : is_before file number x ≡ true = cut.0 0 x (omega arith) (omega arith) in
      let rest = version_at_cut xs at later.1 ((λ k d lo hi. cut.0 (suc k) d (omega arith) (omega arith)), (λ k d lo hi. cut.1 (suc k) d (omega arith) (omega arith))) in
      let other : is_version file number x ≡ false = grind (arith, nat_tests) in
      rw other rest

pub copied_some : {X : Type 0} (o : Option (Bor X)) → is_some (option_copied o) ≡ is_some o
copied_some None = refl
copied_some (Some x) = refl
