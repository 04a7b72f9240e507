-- The last element: of lists after one another, at its place, in a reversed list, and what an update of it keeps.
use Rattle.ele_lists.proofs.Basics.{AllByRecursion, AllLater, Bool, List, None, Option, Some, [], ap, arith, cond, false, find, find-append, get_or, is_some, last_of, length, list_any, option_or, refl, reverse, reverse-append, set, slice_get, suc, take, true, update_last, zero, ℕ, ◌++◌, ◌-◌, ◌∷◌, ◌≡◌, ◌≤◌}
use Rattle.ele_lists.proofs.Alls.{all-reverse}
use Rattle.ele_lists.proofs.Edits.{not_found}

module _ {X : Type 0} where
  pub last-append : (xs ys : List X) (y : X) → last_of (xs ++ y ∷ ys) ≡ last_of (y ∷ ys)
  last-append [] ys y = refl
  last-append (x ∷ []) ys y = refl
  last-append (x ∷ z ∷ xs) ys y = last-append (z ∷ xs) ys y

  pub last_at : (xs : List X) (n : ℕ) → length xs ≡ suc n → slice_get xs n ≡ last_of xs
  last_at [] n h = absurd (omega arith)
  last_at (x ∷ []) n h = grind arith
  last_at (x ∷ y ∷ xs) n h = grind (arith, last_at (y ∷ xs) (n - 1))

  pub last-slice_get : (xs : List X) → slice_get xs (length xs - 1) ≡ last_of xs
  last-slice_get [] = refl
  last-slice_get (x ∷ xs) = last_at (x ∷ xs) (length (x ∷ xs) - 1) (omega arith)

  pub last-take : (xs : List X) (j : ℕ) → suc j ≤ length xs → last_of (take (suc j) xs) ≡ slice_get xs j
  last-take [] j h = absurd (omega arith)
  last-take (x ∷ xs) zero h = refl
  last-take (x ∷ []) (suc j) h = absurd (omega arith)
  last-take (x ∷ y ∷ xs) (suc j) h = last-take (y ∷ xs) j (omega arith)

  pub all-last : (P : X → Type 0) (xs : List X) (x : X) → last_of xs ≡ Some x → AllByRecursion P xs → P x
  all-last P [] x h all = absurd cc
  all-last P (y ∷ []) x h all = let same : y ≡ x = cc in rw (← same) all.0
  all-last P (y ∷ z ∷ xs) x h all = all-last P (z ∷ xs) x h all.1

  -- the last of the first list is before all of the second
  pub later-across : (R : X → X → Type 0) (xs ys : List X) (x : X) → AllLater R (xs ++ ys) → last_of xs ≡ Some x → AllByRecursion (R x) ys
  later-across R [] ys x later is = absurd cc
  later-across R (z ∷ []) ys x later is = let same : z ≡ x = cc in rw (← same) later.0
  later-across R (z ∷ w ∷ xs) ys x later is = later-across R (w ∷ xs) ys x later.1 is

  -- an update of the last element; nothing is after it, so it needs only the relation of the others to it
  pub all-update_last : (P : X → Type 0) (f : X → X) (xs : List X) → ((x : X) → P x → P (f x)) → AllByRecursion P xs → AllByRecursion P (update_last f xs)
  all-update_last P f [] keeps all = tt
  all-update_last P f (x ∷ []) keeps all = (keeps x all.0, tt)
  all-update_last P f (x ∷ y ∷ xs) keeps all = (all.0, all-update_last P f (y ∷ xs) keeps all.1)

  pub later-update_last : (R : X → X → Type 0) (f : X → X) (xs : List X) → ((x y : X) → R x y → R x (f y)) → AllLater R xs → AllLater R (update_last f xs)
  later-update_last R f [] keeps later = tt
  later-update_last R f (x ∷ []) keeps later = (tt, tt)
  later-update_last R f (x ∷ y ∷ xs) keeps later = (all-update_last (R x) f (y ∷ xs) (keeps x) later.0, later-update_last R f (y ∷ xs) keeps later.1)

-- the last that passes
module _ {X : Type 0} (p : X → Bool) where
  pub find_last-cons : (x : X) (xs : List X) → find p (reverse (x ∷ xs)) ≡ option_or (find p (reverse xs)) (cond (p x) (Some x) None)
  find_last-cons x xs = rw (reverse-append (x ∷ []) xs) (find-append p (reverse xs) (x ∷ []))

  pub find_last-is_some : (xs : List X) → is_some (find p (reverse xs)) ≡ list_any p xs
  find_last-is_some [] = refl
  find_last-is_some (x ∷ xs) = grind (arith, find_last-cons x xs, find_last-is_some xs)

  either : (x : X) (xs : List X) (o : Option X) → option_or (last_of (x ∷ xs)) o ≡ last_of (x ∷ xs)
  either x [] o = refl
  either x (y ∷ xs) o = either y xs o

  last_passing : (xs : List X) → AllByRecursion (λ x. p x ≡ true) xs → find p (reverse xs) ≡ last_of xs
  last_passing [] all = refl
  last_passing (x ∷ []) all = rw all.0 refl
  last_passing (x ∷ y ∷ xs) all = grind (arith, find_last-cons x (y ∷ xs), last_passing (y ∷ xs), either y xs)

  -- the last of all, if it passes
  pub find_last-end : (xs : List X) (x : X) → last_of xs ≡ Some x → p x ≡ true → find p (reverse xs) ≡ Some x
  find_last-end [] x is passes = absurd cc
  find_last-end (y ∷ []) x is passes = grind (arith, find_last-cons y [])
  find_last-end (y ∷ z ∷ xs) x is passes = grind (arith, find_last-cons y (z ∷ xs), find_last-end (z ∷ xs) x)

  -- of a list cut in two, all passing before the cut and none after it
  pub find_last-parted : (before behind : List X) → AllByRecursion (λ x. p x ≡ true) before → AllByRecursion (λ x. p x ≡ false) behind → find p (reverse (before ++ behind)) ≡ last_of before
  find_last-parted before behind passes fails = grind (arith, reverse-append, before, behind, find-append, not_found, all-reverse, last_passing, passes)

  pub find-parted : (before behind : List X) → AllByRecursion (λ x. p x ≡ false) before → AllByRecursion (λ x. p x ≡ true) behind → find p (before ++ behind) ≡ slice_get behind 0
  find-parted [] [] fails passes = refl
  find-parted [] (x ∷ xs) fails passes = rw passes.0 refl
  find-parted (x ∷ xs) behind fails passes = rw fails.0 (find-parted xs behind fails.1 passes)

module _ {X : Type 0} (f : X → X) where
  pub update_last-set : (xs : List X) (n : ℕ) (x : X) → length xs ≡ suc n → x ≡ get_or xs n x → set xs n (f x) ≡ update_last f xs
  update_last-set [] n x long is = absurd (omega arith)
  update_last-set (y ∷ []) n x long is = grind arith
  update_last-set (y ∷ z ∷ xs) n x long is = grind (arith, update_last-set (z ∷ xs) (n - 1) x)

  pub length-update_last : (xs : List X) → length (update_last f xs) ≡ length xs
  length-update_last [] = refl
  length-update_last (x ∷ []) = refl
  length-update_last (x ∷ y ∷ xs) = omega (arith, length-update_last (y ∷ xs))

  pub update_last-append : (xs : List X) (y : X) (ys : List X) → update_last f (xs ++ y ∷ ys) ≡ xs ++ update_last f (y ∷ ys)
  update_last-append [] y ys = refl
  update_last-append (x ∷ []) y ys = refl
  update_last-append (x ∷ z ∷ xs) y ys = ap (λ zs. x ∷ zs) (update_last-append (z ∷ xs) y ys)
