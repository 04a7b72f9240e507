-- Whether any element passes, beside an element more or less.
use Rattle.ele_lists.proofs.Basics.{AllByRecursion, Bool, List, [], ap, arith, list_any, true, ◌++◌, ◌||◌, ◌∷◌, ◌≡◌}

module _ {X : Type 0} where
  -- each that passes passes the second test too
  pub any-weaker : (p q : X → Bool) (xs : List X) → ((x : X) → p x ≡ true → q x ≡ true) → list_any p xs ≡ true → list_any q xs ≡ true
  any-weaker p q [] weaker h = absurd cc
  any-weaker p q (x ∷ xs) weaker h = grind (arith, any-weaker p q xs)

  -- an element that passes only if a later one does can be removed
  pub any-without : (p : X → Bool) (xs : List X) (gone : X) (ys : List X) → (p gone ≡ true → list_any p ys ≡ true) → list_any p (xs ++ gone ∷ ys) ≡ list_any p (xs ++ ys)
  any-without p [] gone ys other = grind arith
  any-without p (x ∷ xs) gone ys other = ap (λ b. p x || b) (any-without p xs gone ys other)

  -- and one more takes nothing away
  pub any-with : (p : X → Bool) (xs : List X) (more : X) (ys : List X) → list_any p (xs ++ ys) ≡ true → list_any p (xs ++ more ∷ ys) ≡ true
  any-with p [] more ys h = grind arith
  any-with p (x ∷ xs) more ys h = grind (arith, any-with p xs more ys)

  -- the first decides, if it passes wherever a later one does
  pub any-first : (p : X → Bool) (x : X) (xs : List X) → AllByRecursion (λ y. p y ≡ true → p x ≡ true) xs → list_any p (x ∷ xs) ≡ p x
  any-first p x [] later = grind arith
  any-first p x (y ∷ ys) later = grind (arith, any-first p x ys)
