-- A list that has the same places, each once.
use Rattle.ele_model.proofs.Basics.{nat_tests, arith, ◌≡◌, Bool, true, false, List, [], ◌∷◌, refl, AllByRecursion, list_any, all-weaker, false≢true}
use Rattle.ele_model.proofs.Words.{Place, is_place}
use Rattle.ele_world.specs.CountsPlaces.{HasDifferent, CountsPlaces}

same : (p q : Place) → is_place p q ≡ true → p ≡ q
same p q h = grind (arith, nat_tests)

-- what is among them, by whichever side
among : (p : Place) (xs ys : List Place) → list_any (λ y. is_place y p) xs ≡ true → AllByRecursion (λ x. list_any (is_place x) ys ≡ true) xs → list_any (is_place p) ys ≡ true
among p [] ys h all = absurd cc
among p (x ∷ xs) ys h all = grind (arith, nat_tests, same x p, among p xs ys)

-- what none is among those that have it
none_alike : (p : Place) (xs ys : List Place) → list_any (λ y. is_place y p) xs ≡ false → AllByRecursion (λ y. list_any (is_place y) xs ≡ true) ys → AllByRecursion (λ y. is_place p y ≡ false) ys
none_alike p xs ys none only = all-weaker (λ y. list_any (is_place y) xs ≡ true) (λ y. is_place p y ≡ false) ys (λ y h. other y h) only where
  swapped : (zs : List Place) → list_any (is_place p) zs ≡ list_any (λ y. is_place y p) zs
  swapped [] = refl
  swapped (z ∷ zs) = grind (arith, nat_tests, swapped zs)

  other : (y : Place) → list_any (is_place y) xs ≡ true → is_place p y ≡ false
  other y h = grind (arith, nat_tests, same p y, swapped xs, false≢true)

more : (p : Place) (xs ys : List Place) → AllByRecursion (λ y. list_any (is_place y) xs ≡ true) ys → AllByRecursion (λ y. list_any (is_place y) (p ∷ xs) ≡ true) ys
more p xs ys = all-weaker (λ y. list_any (is_place y) xs ≡ true) (λ y. list_any (is_place y) (p ∷ xs) ≡ true) ys (λ y h. grind (arith, h))

itself : (p : Place) → is_place p p ≡ true
itself p = grind (arith, nat_tests)

one_more : (p : Place) (xs : List Place) (b : Bool) → list_any (λ y. is_place y p) xs ≡ b → HasDifferent xs → HasDifferent (p ∷ xs)
one_more p xs true is rest = record { once = rest.once; apart = rest.apart; all = (among p xs rest.once is rest.all, rest.all); only = more p xs rest.once rest.only; count = grind (arith, is, rest.count) }
one_more p xs false is rest = record { once = p ∷ rest.once; apart = (none_alike p xs rest.once is rest.only, rest.apart); all = (grind (arith, itself p), more p rest.once xs rest.all); only = (grind (arith, itself p), more p xs rest.once rest.only); count = grind (arith, is, rest.count) }

pub counts_places : CountsPlaces
counts_places [] = record { once = []; apart = tt; all = tt; only = tt; count = refl }
counts_places (p ∷ xs) = one_more p xs (list_any (λ y. is_place y p) xs) refl (counts_places xs)
