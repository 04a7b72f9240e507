-- Changes of a list beside a filter of it.
use Rattle.ele_model.proofs.Basics.{◌≡◌, ℕ, Bool, true, false, not, List, [], ◌∷◌, ◌++◌, refl, arith, nat_tests, filter, find, list_any, AllByRecursion, AllLater, all-weaker, filter-all, insert_before, remove_first, update_first}
use Rattle.ele_model.proofs.Words.{ArePlaced, is_version}
use Rattle.ele_world.proofs.Words.{VersionRow}

-- q is a filter's test, p the test of a change; all that pass p stay, or none does
module _ {X : Type 0} (q p : X → Bool) where
  -- a change that the filter doesn't see
  pub update_first-filter : (b : Bool) (f : X → X) (xs : List X) → ((x : X) → q (f x) ≡ q x) → ((x : X) → p x ≡ true → q x ≡ b) → update_first p f (filter q xs) ≡ filter q (update_first p f xs)
  update_first-filter b f [] keeps alike = refl
  update_first-filter true f (x ∷ xs) keeps alike = grind (arith, keeps x, alike x, update_first-filter true f xs keeps alike)
  update_first-filter false f (x ∷ xs) keeps alike = grind (arith, keeps x, alike x, unchanged (x ∷ xs), unchanged xs, update_first-filter false f xs keeps alike) where
    unchanged : (ys : List X) → update_first p f (filter q ys) ≡ filter q ys
    unchanged [] = refl
    unchanged (y ∷ ys) = grind (arith, alike y, unchanged ys)

  pub remove_first-filter : (xs : List X) → ((x : X) → p x ≡ true → q x ≡ true) → remove_first p (filter q xs) ≡ filter q (remove_first p xs)
  remove_first-filter [] stay = refl
  remove_first-filter (x ∷ xs) stay = grind (arith, stay x, remove_first-filter xs stay)

  -- what is added stays; all after one that passes p pass
  pub insert_before-filter : (y : X) (xs : List X) → q y ≡ true → AllLater (λ x z. p x ≡ true → p z ≡ true) xs → insert_before p y (filter q xs) ≡ filter q (insert_before p y xs)
  insert_before-filter y [] stays later = grind (arith, stays)
  insert_before-filter y (x ∷ xs) stays later = grind (arith, stays, insert_before-filter y xs stays later.1, in_front xs, later) where
    -- before all that pass
    in_front : (zs : List X) → AllByRecursion (λ z. p x ≡ true → p z ≡ true) zs → p x ≡ true → insert_before p y (filter q zs) ≡ y ∷ filter q zs
    in_front [] all is = refl
    in_front (z ∷ zs) all is = grind (arith, all.0, in_front zs)

-- the one version with a number is taken out
pub remove_first-version : (file number : ℕ) (rows : List VersionRow) → AllLater ArePlaced rows → remove_first (is_version file number) rows ≡ filter (λ row. not (is_version file number row)) rows
remove_first-version file number [] placed = refl
remove_first-version file number (x ∷ xs) placed = grind (arith, nat_tests, filter-all (λ row. not (is_version file number row)) xs, apart_from, remove_first-version file number xs placed.1) where
  apart_from : is_version file number x ≡ true → AllByRecursion (λ y. not (is_version file number y) ≡ true) xs
  apart_from is = all-weaker (ArePlaced x) (λ y. not (is_version file number y) ≡ true) xs (λ y before. let after = before.after in grind (arith, nat_tests)) placed.0

-- of elements that stay if they pass p
module _ {X : Type 0} (q p : X → Bool) where
  pub find-stay : (xs : List X) → AllByRecursion (λ x. p x ≡ true → q x ≡ true) xs → find p (filter q xs) ≡ find p xs
  find-stay [] stay = refl
  find-stay (x ∷ xs) stay = grind (arith, stay.0, find-stay xs stay.1)

  pub list_any-stay : (xs : List X) → AllByRecursion (λ x. p x ≡ true → q x ≡ true) xs → list_any p (filter q xs) ≡ list_any p xs
  list_any-stay [] stay = refl
  list_any-stay (x ∷ xs) stay = grind (arith, stay.0, list_any-stay xs stay.1)

  pub update_first-stay : (f : X → X) (xs : List X) → ((x : X) → q (f x) ≡ q x) → AllByRecursion (λ x. p x ≡ true → q x ≡ true) xs → update_first p f (filter q xs) ≡ filter q (update_first p f xs)
  update_first-stay f [] keeps stay = refl
  update_first-stay f (x ∷ xs) keeps stay = grind (arith, keeps x, stay.0, update_first-stay f xs keeps stay.1)

-- one more element at the end
pub filter-push : {X : Type 0} (q : X → Bool) (xs : List X) (y : X) → q y ≡ true → filter q xs ++ y ∷ [] ≡ filter q (xs ++ y ∷ [])
filter-push q [] y stays = grind (arith, stays)
filter-push q (x ∷ xs) y stays = grind (arith, filter-push q xs y stays)
