-- What holds of all elements, or between them, in parts of lists, lists after one another, filters and views.
use Rattle.ele_lists.proofs.Basics.{AllByRecursion, AllLater, Bool, List, Some, [], append_assoc, arith, filter, flat_map, get_or, length, map, refl, reverse, reverse-append, slice_get, sym, true, ℕ, ◌++◌, ◌-◌, ◌<◌, ◌∙◌, ◌∷◌, ◌≡◌}
use Rattle.ele_lists.proofs.Edits.{all-both, all-weaker}

module _ {X : Type 0} (P : X → Type 0) where
  pub all-append : (xs ys : List X) → AllByRecursion P xs → AllByRecursion P ys → AllByRecursion P (xs ++ ys)
  all-append [] ys a b = b
  all-append (x ∷ xs) ys a b = (a.0, all-append xs ys a.1 b)

  pub all-left : (xs ys : List X) → AllByRecursion P (xs ++ ys) → AllByRecursion P xs
  all-left [] ys all = tt
  all-left (x ∷ xs) ys all = (all.0, all-left xs ys all.1)

  pub all-right : (xs ys : List X) → AllByRecursion P (xs ++ ys) → AllByRecursion P ys
  all-right [] ys all = all
  all-right (x ∷ xs) ys all = all-right xs ys all.1

  -- before, at and after one element
  pub all-around : (xs : List X) (x : X) (ys : List X) → AllByRecursion P (xs ++ x ∷ ys) → AllByRecursion P xs × P x × AllByRecursion P ys
  all-around [] x ys all = (tt, all.0, all.1)
  all-around (z ∷ xs) x ys all = let rest = all-around xs x ys all.1 in ((all.0, rest.0), rest.1, rest.2)

  pub all-mid : (xs : List X) (x : X) (ys : List X) → AllByRecursion P (xs ++ x ∷ ys) → P x
  all-mid xs x ys all = (all-around xs x ys all).1

  pub all-exchange : (xs : List X) (x y : X) (ys : List X) → P y → AllByRecursion P (xs ++ x ∷ ys) → AllByRecursion P (xs ++ y ∷ ys)
  all-exchange [] x y ys one all = (one, all.1)
  all-exchange (z ∷ xs) x y ys one all = (all.0, all-exchange xs x y ys one all.1)

  -- what holds of each element, at any place, holds of all
  pub all-split : (xs : List X) → ((before : List X) (x : X) (behind : List X) → xs ≡ before ++ x ∷ behind → P x) → AllByRecursion P xs
  all-split xs each = by [] xs refl where
    by : (before rest : List X) → xs ≡ before ++ rest → AllByRecursion P rest
    by before [] whole = tt
    by before (x ∷ rest) whole = (each before x rest whole, by (before ++ x ∷ []) rest (whole ∙ sym (append_assoc before (x ∷ []) rest)))

  pub all-place : (xs : List X) (i : ℕ) (d : X) → AllByRecursion P xs → i < length xs → P (get_or xs i d)
  all-place [] i d all lt = absurd (omega arith)
  all-place (x ∷ xs) i d all lt = grind (arith, all-place xs (i - 1) d)

  pub all-got : (xs : List X) (i : ℕ) (x : X) → AllByRecursion P xs → slice_get xs i ≡ Some x → P x
  all-got [] i x all e = absurd cc
  all-got (y ∷ xs) i x all e = grind (arith, all-got xs (i - 1) x)

  pub all-reverse : (xs : List X) → AllByRecursion P xs → AllByRecursion P (reverse xs)
  all-reverse [] all = tt
  all-reverse (x ∷ xs) all = rw (reverse-append (x ∷ []) xs) (all-append (reverse xs) (x ∷ []) (all-reverse xs all.1) (all.0, tt))

  pub all-filter : (p : X → Bool) (xs : List X) → AllByRecursion P xs → AllByRecursion P (filter p xs)
  all-filter p [] all = tt
  all-filter p (x ∷ xs) all = grind (arith, all-filter p xs)

-- those that pass do
pub filter-passes : {X : Type 0} (p : X → Bool) (xs : List X) → AllByRecursion (λ x. p x ≡ true) (filter p xs)
filter-passes p [] = tt
filter-passes p (x ∷ xs) = grind (arith, filter-passes p xs)

module _ {X Y : Type 0} (h : X → Y) (P : Y → Type 0) where
  pub all-map : (xs : List X) → AllByRecursion (λ x. P (h x)) xs → AllByRecursion P (map h xs)
  all-map [] all = tt
  all-map (x ∷ xs) all = (all.0, all-map xs all.1)

  pub map-all : (xs : List X) → AllByRecursion P (map h xs) → AllByRecursion (λ x. P (h x)) xs
  map-all [] all = tt
  map-all (x ∷ xs) all = (all.0, map-all xs all.1)

module _ {X Y : Type 0} (h : X → List Y) (P : Y → Type 0) where
  pub all-flat_map : (Q : X → Type 0) (xs : List X) → ((x : X) → Q x → AllByRecursion P (h x)) → AllByRecursion Q xs → AllByRecursion P (flat_map h xs)
  all-flat_map Q [] each all = tt
  all-flat_map Q (x ∷ xs) each all = all-append P (h x) (flat_map h xs) (each x all.0) (all-flat_map Q xs each all.1)

  pub flat_map-all : (xs : List X) → AllByRecursion P (flat_map h xs) → AllByRecursion (λ x. AllByRecursion P (h x)) xs
  flat_map-all [] all = tt
  flat_map-all (x ∷ xs) all = (all-left P (h x) (flat_map h xs) all, flat_map-all xs (all-right P (h x) (flat_map h xs) all))

-- between elements
module _ {X : Type 0} (R : X → X → Type 0) where
  pub later-weaker : (S : X → X → Type 0) (xs : List X) → ((x y : X) → R x y → S x y) → AllLater R xs → AllLater S xs
  later-weaker S [] weaker later = tt
  later-weaker S (x ∷ xs) weaker later = (all-weaker (R x) (S x) xs (weaker x) later.0, later-weaker S xs weaker later.1)

  pub later-left : (xs ys : List X) → AllLater R (xs ++ ys) → AllLater R xs
  later-left [] ys later = tt
  later-left (x ∷ xs) ys later = (all-left (R x) xs ys later.0, later-left xs ys later.1)

  pub later-right : (xs ys : List X) → AllLater R (xs ++ ys) → AllLater R ys
  later-right [] ys later = later
  later-right (x ∷ xs) ys later = later-right xs ys later.1

  -- how an element relates to those before and after it
  pub later-around : (xs : List X) (x : X) (ys : List X) → AllLater R (xs ++ x ∷ ys) → AllByRecursion (λ z. R z x) xs × AllByRecursion (R x) ys
  later-around [] x ys later = (tt, later.0)
  later-around (z ∷ xs) x ys later = let rest = later-around xs x ys later.1 in ((all-mid (R z) xs x ys later.0, rest.0), rest.1)

  -- without one element
  pub later-without : (xs : List X) (x : X) (ys : List X) → AllLater R (xs ++ x ∷ ys) → AllLater R (xs ++ ys)
  later-without [] x ys later = later.1
  later-without (z ∷ xs) x ys later = let all = all-around (R z) xs x ys later.0 in (all-append (R z) xs ys all.0 all.2, later-without xs x ys later.1)

  -- with another in the place of one
  pub later-exchange : (xs : List X) (x y : X) (ys : List X) → ((z : X) → R z x → R z y) → ((zs : List X) → AllByRecursion (R x) zs → AllByRecursion (R y) zs) → AllLater R (xs ++ x ∷ ys) → AllLater R (xs ++ y ∷ ys)
  later-exchange [] x y ys second first later = (first ys later.0, later.1)
  later-exchange (z ∷ xs) x y ys second first later =
      (all-exchange (R z) xs x y ys (second z (all-mid (R z) xs x ys later.0)) later.0, later-exchange xs x y ys second first later.1)

  pub later-place : (xs : List X) (i j : ℕ) (d : X) → AllLater R xs → i < j → j < length xs → R (get_or xs i d) (get_or xs j d)
  later-place [] i j d later lt within = absurd (omega arith)
  later-place (x ∷ xs) i j d later lt within = grind (arith, all-place (R x) xs (j - 1) d, later-place xs (i - 1) (j - 1) d)

  -- between those that pass
  pub later-filter : (S : X → X → Type 0) (p : X → Bool) (xs : List X) → ((x y : X) → p x ≡ true → p y ≡ true → R x y → S x y) → AllLater R xs → AllLater S (filter p xs)
  later-filter S p [] gives later = tt
  later-filter S p (x ∷ xs) gives later = grind (arith, all-both (R x) (λ y. p y ≡ true) (filter p xs), all-filter (R x) p xs, filter-passes p xs, all-weaker (λ y. R x y × (p y ≡ true)) (S x) (filter p xs), later-filter S p xs)

-- between elements of a view, and back
pub later-map : {X Y : Type 0} (h : X → Y) (R : Y → Y → Type 0) (xs : List X) → AllLater (λ x y. R (h x) (h y)) xs → AllLater R (map h xs)
later-map h R [] later = tt
later-map h R (x ∷ xs) later = (all-map h (R (h x)) xs later.0, later-map h R xs later.1)

pub map-later : {X Y : Type 0} (h : X → Y) (R : Y → Y → Type 0) (xs : List X) → AllLater R (map h xs) → AllLater (λ x y. R (h x) (h y)) xs
map-later h R [] later = tt
map-later h R (x ∷ xs) later = (map-all h (R (h x)) xs later.0, map-later h R xs later.1)
