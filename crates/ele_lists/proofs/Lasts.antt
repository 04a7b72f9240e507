-- The last element that passes, and what all others then are.
use Rattle.ele_lists.proofs.Basics.{AllByRecursion, AllLater, Bool, List, None, Some, [], arith, cond, false, find, last_passing, option_or, passing, refl, true, ◌&&◌, ◌∷◌, ◌≡◌}

module _ {X : Type 0} where
  module _ (p : X → Bool) where
    pub last_has : (P : X → Type 0) (xs : List X) (x : X) → AllByRecursion P xs → last_passing p xs ≡ Some x → (P x) × (p x ≡ true)
    last_has P [] x all h = absurd cc
    last_has P (y ∷ ys) x all h = grind (arith, last_has P ys)

    -- if each that passes fails q as soon as a later one passes, the last decides
    pub find_last : (q : X → Bool) (xs : List X) → AllLater (λ x y. p x ≡ true → p y ≡ true → q x ≡ false) xs → find (λ x. p x && q x) xs ≡ passing q (last_passing p xs)
    find_last q [] apart = refl
    find_last q (x ∷ xs) apart = elim (last_passing p xs) as (λ o. last_passing p xs ≡ o → find (λ x. p x && q x) (x ∷ xs) ≡ passing q (option_or o (cond (p x) (Some x) None))) [
      | Some y ↦ λ e. let is = last_has (λ y. p x ≡ true → p y ≡ true → q x ≡ false) xs y apart.0 e in grind (arith, find_last q xs)
      | None ↦ λ e. grind (arith, find_last q xs)
    ] refl
