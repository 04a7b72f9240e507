-- A list cut at an element: at the first that passes, at a place, or at an insertion; and what finds and changes do there.
use Rattle.ele_lists.proofs.Basics.{AllByRecursion, Bool, List, Some, [], ap, arith, cond, false, find, insert_before, list_any, refl, remove_first, true, update_first, ◌++◌, ◌∙◌, ◌∷◌, ◌≡◌}

-- the first that passes, with what is before and after it
pub record IsCut {X : Type 0} (p : X → Bool) (xs : List X) (x : X) : Type 0 where
  pub before : List X
  pub behind : List X
  pub whole : xs ≡ before ++ x ∷ behind
  pub passes : p x ≡ true
  pub none : AllByRecursion (λ y. p y ≡ false) before

module _ {X : Type 0} (p : X → Bool) where
  pub find-cut : (xs : List X) (x : X) → find p xs ≡ Some x → IsCut p xs x
  find-cut [] x found = absurd cc
  find-cut (y ∷ xs) x found = elim (p y) as (λ b. p y ≡ b → IsCut p (y ∷ xs) x) [
    | true ↦ λ e. record { before = []; behind = xs; whole = grind arith; passes = grind arith; none = tt }
    | false ↦ λ e.
        let rest = find-cut xs x (rw e at found) in
        record { before = y ∷ rest.before; behind = rest.behind; whole = ap (λ zs. y ∷ zs) rest.whole; passes = rest.passes; none = (e, rest.none) }
  ] refl

  -- if one passes, it is found
  pub any-found : (xs : List X) → list_any p xs ≡ true → (x : X) × (find p xs ≡ Some x)
  any-found [] h = absurd cc
  any-found (x ∷ xs) h = elim (p x) as (λ b. p x ≡ b → (y : X) × (cond b (Some x) (find p xs) ≡ Some y)) [
    | true ↦ λ e. (x, refl)
    | false ↦ λ e. any-found xs (rw e at h)
  ] refl

  -- without an element that fails, the same is found
  pub find-without : (xs : List X) (x : X) (ys : List X) → p x ≡ false → find p (xs ++ x ∷ ys) ≡ find p (xs ++ ys)
  find-without [] x ys fails = rw fails refl
  find-without (z ∷ xs) x ys fails = ap (λ o. cond (p z) (Some z) o) (find-without xs x ys fails)

  -- if none before it passes, a find or a change happens after it
  pub find-skip : (xs ys : List X) → AllByRecursion (λ x. p x ≡ false) xs → find p (xs ++ ys) ≡ find p ys
  find-skip [] ys none = refl
  find-skip (x ∷ xs) ys none = rw none.0 (find-skip xs ys none.1)

  pub update_first-skip : (f : X → X) (xs ys : List X) → AllByRecursion (λ x. p x ≡ false) xs → update_first p f (xs ++ ys) ≡ xs ++ update_first p f ys
  update_first-skip f [] ys none = refl
  update_first-skip f (x ∷ xs) ys none = rw none.0 (ap (λ zs. x ∷ zs) (update_first-skip f xs ys none.1))

  pub remove_first-skip : (xs ys : List X) → AllByRecursion (λ x. p x ≡ false) xs → remove_first p (xs ++ ys) ≡ xs ++ remove_first p ys
  remove_first-skip [] ys none = refl
  remove_first-skip (x ∷ xs) ys none = rw none.0 (ap (λ zs. x ∷ zs) (remove_first-skip xs ys none.1))

  pub insert_before-skip : (y : X) (xs ys : List X) → AllByRecursion (λ x. p x ≡ false) xs → insert_before p y (xs ++ ys) ≡ xs ++ insert_before p y ys
  insert_before-skip y [] ys none = refl
  insert_before-skip y (x ∷ xs) ys none = rw none.0 (ap (λ zs. x ∷ zs) (insert_before-skip y xs ys none.1))

  -- at the cut
  pub find-at : (before : List X) (x : X) (behind : List X) → AllByRecursion (λ y. p y ≡ false) before → p x ≡ true → find p (before ++ x ∷ behind) ≡ Some x
  find-at before x behind none passes = find-skip before (x ∷ behind) none ∙ rw passes refl

  pub update_first-at : (f : X → X) (before : List X) (x : X) (behind : List X) → AllByRecursion (λ y. p y ≡ false) before → p x ≡ true → update_first p f (before ++ x ∷ behind) ≡ before ++ f x ∷ behind
  update_first-at f before x behind none passes = update_first-skip f before (x ∷ behind) none ∙ rw passes refl

  pub remove_first-at : (before : List X) (x : X) (behind : List X) → AllByRecursion (λ y. p y ≡ false) before → p x ≡ true → remove_first p (before ++ x ∷ behind) ≡ before ++ behind
  remove_first-at before x behind none passes = remove_first-skip before (x ∷ behind) none ∙ rw passes refl

  -- if none passes at all, nothing is changed
  pub update_first-unfound : (f : X → X) (xs : List X) → AllByRecursion (λ x. p x ≡ false) xs → update_first p f xs ≡ xs
  update_first-unfound f [] none = refl
  update_first-unfound f (x ∷ xs) none = rw none.0 (ap (λ zs. x ∷ zs) (update_first-unfound f xs none.1))

  pub remove_first-unfound : (xs : List X) → AllByRecursion (λ x. p x ≡ false) xs → remove_first p xs ≡ xs
  remove_first-unfound [] none = refl
  remove_first-unfound (x ∷ xs) none = rw none.0 (ap (λ zs. x ∷ zs) (remove_first-unfound xs none.1))

  -- if none after it passes, a change happens before it
  pub update_first-front : (f : X → X) (xs ys : List X) → AllByRecursion (λ x. p x ≡ false) ys → update_first p f (xs ++ ys) ≡ update_first p f xs ++ ys
  update_first-front f [] ys none = update_first-unfound f ys none
  update_first-front f (x ∷ xs) ys none = grind (arith, update_first-front f xs ys)

  pub remove_first-front : (xs ys : List X) → AllByRecursion (λ x. p x ≡ false) ys → remove_first p (xs ++ ys) ≡ remove_first p xs ++ ys
  remove_first-front [] ys none = remove_first-unfound ys none
  remove_first-front (x ∷ xs) ys none = grind (arith, remove_first-front xs ys)

  -- if all after it pass, an insertion is before them
  pub insert_before-front : (y : X) (xs ys : List X) → AllByRecursion (λ x. p x ≡ true) ys → insert_before p y (xs ++ ys) ≡ insert_before p y xs ++ ys
  insert_before-front y [] [] all = refl
  insert_before-front y [] (z ∷ ys) all = grind arith
  insert_before-front y (x ∷ xs) ys all = grind (arith, insert_before-front y xs ys)

  -- an update of what is found, if it is the same after it
  pub update_first-same : (f : X → X) (xs : List X) (x : X) → find p xs ≡ Some x → f x ≡ x → update_first p f xs ≡ xs
  update_first-same f [] x found same = refl
  update_first-same f (y ∷ xs) x found same = grind (arith, update_first-same f xs x)
