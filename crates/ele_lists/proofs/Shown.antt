-- Finds, tests and changes of a view of a list, as those of the list itself; and whether a reference has something.
use Rattle.ele_lists.proofs.Basics.{Bool, Bor, List, None, Option, Some, [], ap, arith, find, insert_before, is_some, list_any, map, option_copied, option_map, refl, remove_first, update_first, ◌||◌, ◌∷◌, ◌≡◌}

module _ {X Y : Type 0} (h : X → Y) (p : Y → Bool) where
  pub find-map : (xs : List X) → find p (map h xs) ≡ option_map h (find (λ x. p (h x)) xs)
  find-map [] = refl
  find-map (x ∷ xs) = grind (arith, find-map xs)

  pub any-map : (xs : List X) → list_any p (map h xs) ≡ list_any (λ x. p (h x)) xs
  any-map [] = refl
  any-map (x ∷ xs) = ap (λ b. p (h x) || b) (any-map xs)

-- the same test on both sides
module _ {X Y : Type 0} (h : X → Y) (p : Y → Bool) (q : X → Bool) (same : (x : X) → p (h x) ≡ q x) where
  pub remove_first-map : (xs : List X) → remove_first p (map h xs) ≡ map h (remove_first q xs)
  remove_first-map [] = refl
  remove_first-map (x ∷ xs) = grind (arith, same x, remove_first-map xs)

  pub update_first-map : (f : Y → Y) (g : X → X) → ((x : X) → f (h x) ≡ h (g x)) → (xs : List X) → update_first p f (map h xs) ≡ map h (update_first q g xs)
  update_first-map f g made [] = refl
  update_first-map f g made (x ∷ xs) = grind (arith, same x, update_first-map f g made xs)

  pub insert_before-map : (y : X) (xs : List X) → insert_before p (h y) (map h xs) ≡ map h (insert_before q y xs)
  insert_before-map y [] = refl
  insert_before-map y (x ∷ xs) = grind (arith, same x, insert_before-map y xs)

-- the value of a reference
pub is_some-copied : {X : Type 0} (o : Option (Bor X)) → is_some (option_copied o) ≡ is_some o
is_some-copied None = refl
is_some-copied (Some x) = refl
