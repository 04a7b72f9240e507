-- The best of some weighed policies, and one more.
use Rattle.std.proofs.Common.{◌≡◌, ℕ, zero, suc, ◌+◌, ◌<◌, true, false, ◌&&◌, ◌||◌, eqb, ltb, List, [], ◌∷◌, ◌++◌, length, take, get_or, slice_get, Option, Some, None, IfSome, refl, sym, ap, subst, ◌∙◌, arith}
use Rattle.std.proofs.lemmas.Bool.{false≢true}
use Rattle.std.proofs.lemmas.Bool.Decides.{nat_tests}
use Rattle.std.proofs.lemmas.List.{length-take-le, take_more}
use Rattle.std.proofs.lemmas.Option.{get_or_from_slice_get}
use Rattle.std.specs.List.{AllByRecursion}
use Rattle.ele_suggest.specs.Best.{IsBest, IsBestOf, costs_less}
use Rattle.ele_suggest.specs.declared.weighed.Weighed.{Weighed}

-- ---- lists

all_push : (P : Weighed → Type 0) (ys : List Weighed) (x : Weighed) → AllByRecursion P ys → P x → AllByRecursion P (ys ++ x ∷ [])
all_push P [] x all is = (is, tt)
all_push P (y ∷ ys) x all is = (all.0, all_push P ys x all.1 is)

all_then : (P Q : Weighed → Type 0) (ys : List Weighed) → ((y : Weighed) → P y → Q y) → AllByRecursion P ys → AllByRecursion Q ys
all_then P Q [] on all = tt
all_then P Q (y ∷ ys) on all = (on y all.0, all_then P Q ys on all.1)

get_push : (ys : List Weighed) (x b : Weighed) (p : ℕ) → slice_get ys p ≡ Some b → slice_get (ys ++ x ∷ []) p ≡ Some b
get_push [] x b p e = absurd cc
get_push (y ∷ ys) x b zero e = e
get_push (y ∷ ys) x b (suc p) e = get_push ys x b p e

get_last : (ys : List Weighed) (x : Weighed) → slice_get (ys ++ x ∷ []) (length ys) ≡ Some x
get_last [] x = refl
get_last (y ∷ ys) x = get_last ys x

take_push : (ys : List Weighed) (x b : Weighed) (p : ℕ) → slice_get ys p ≡ Some b → take p ys ≡ take p (ys ++ x ∷ [])
take_push [] x b p e = absurd cc
take_push (y ∷ ys) x b zero e = refl
take_push (y ∷ ys) x b (suc p) e = ap (λ (zs : List Weighed). y ∷ zs) (take_push ys x b p e)

take_all_push : (ys : List Weighed) (x : Weighed) → ys ≡ take (length ys) (ys ++ x ∷ [])
take_all_push [] x = refl
take_all_push (y ∷ ys) x = ap (λ (zs : List Weighed). y ∷ zs) (take_all_push ys x)

-- ---- costs

-- nothing costs less than itself
not_less : (b n : ℕ) → (ltb b b || (eqb b b && ltb n n)) ≡ false
not_less b n = grind (arith, nat_tests)

-- what costs less than a thing that isn't dearer than another costs less than that one
less_on : (b n c m d k : ℕ) → (ltb d c || (eqb d c && ltb k m)) ≡ false → (ltb b c || (eqb b c && ltb n m)) ≡ true → (ltb b d || (eqb b d && ltb n k)) ≡ true
less_on b n c m d k p q = grind (arith, nat_tests)

-- and that one doesn't cost less
not_back : (b n d k : ℕ) → (ltb b d || (eqb b d && ltb n k)) ≡ true → (ltb d b || (eqb d b && ltb k n)) ≡ false
not_back b n d k p = grind (arith, nat_tests)

-- ---- one more

-- one that doesn't keep what is asked
other_more : (ys : List Weighed) (best : Option ℕ) (x : Weighed) → x.keeps ≡ false → IsBestOf ys best → IsBestOf (ys ++ x ∷ []) best
other_more ys None x keeps is = all_push (λ (o : Weighed). o.keeps ≡ false) ys x is keeps
other_more ys (Some place) x keeps is = record {
  best = is.best;
  there = get_push ys x is.best place is.there;
  keeps = is.keeps;
  least = all_push (λ (o : Weighed). o.keeps ≡ true → costs_less o is.best ≡ false) ys x is.least (λ yes. absurd (false≢true (sym keeps ∙ yes)));
  first = subst (λ (zs : List Weighed). AllByRecursion (λ (o : Weighed). o.keeps ≡ true → costs_less is.best o ≡ true) zs) (take_push ys x is.best place is.there) is.first;
}

-- the first one that keeps it
first_one : (ys : List Weighed) (x : Weighed) → x.keeps ≡ true → IsBestOf ys None → IsBest (ys ++ x ∷ []) (length ys)
first_one ys x keeps none = record {
  best = x;
  there = get_last ys x;
  keeps = keeps;
  least = all_push (λ (o : Weighed). o.keeps ≡ true → costs_less o x ≡ false) ys x
      (all_then (λ (o : Weighed). o.keeps ≡ false) (λ (o : Weighed). o.keeps ≡ true → costs_less o x ≡ false) ys (λ o no yes. absurd (false≢true (sym no ∙ yes))) none)
      (λ yes. not_less x.bytes (length x.numbers.items));
  first = subst (λ (zs : List Weighed). AllByRecursion (λ (o : Weighed). o.keeps ≡ true → costs_less x o ≡ true) zs) (take_all_push ys x)
      (all_then (λ (o : Weighed). o.keeps ≡ false) (λ (o : Weighed). o.keeps ≡ true → costs_less x o ≡ true) ys (λ o no yes. absurd (false≢true (sym no ∙ yes))) none);
}

-- one that costs less than the best
new_best : (ys : List Weighed) (x : Weighed) (place : ℕ) → x.keeps ≡ true → (is : IsBest ys place) → costs_less x is.best ≡ true → IsBest (ys ++ x ∷ []) (length ys)
new_best ys x place keeps is cheap =
    let cheaper : (o : Weighed) → costs_less o is.best ≡ false → costs_less x o ≡ true =
    λ o dear. less_on x.bytes (length x.numbers.items) is.best.bytes (length is.best.numbers.items) o.bytes (length o.numbers.items) dear cheap in
    record {
      best = x;
      there = get_last ys x;
      keeps = keeps;
      least = all_push (λ (o : Weighed). o.keeps ≡ true → costs_less o x ≡ false) ys x
          (all_then (λ (o : Weighed). o.keeps ≡ true → costs_less o is.best ≡ false) (λ (o : Weighed). o.keeps ≡ true → costs_less o x ≡ false) ys
          (λ o dear yes. not_back x.bytes (length x.numbers.items) o.bytes (length o.numbers.items) (cheaper o (dear yes))) is.least)
          (λ yes. not_less x.bytes (length x.numbers.items));
      first = subst (λ (zs : List Weighed). AllByRecursion (λ (o : Weighed). o.keeps ≡ true → costs_less x o ≡ true) zs) (take_all_push ys x)
          (all_then (λ (o : Weighed). o.keeps ≡ true → costs_less o is.best ≡ false) (λ (o : Weighed). o.keeps ≡ true → costs_less x o ≡ true) ys
          (λ o dear yes. cheaper o (dear yes)) is.least);
    }

-- one that doesn't
old_best : (ys : List Weighed) (x : Weighed) (place : ℕ) → (is : IsBest ys place) → costs_less x is.best ≡ false → IsBest (ys ++ x ∷ []) place
old_best ys x place is dear = record {
  best = is.best;
  there = get_push ys x is.best place is.there;
  keeps = is.keeps;
  least = all_push (λ (o : Weighed). o.keeps ≡ true → costs_less o is.best ≡ false) ys x is.least (λ yes. dear);
  first = subst (λ (zs : List Weighed). AllByRecursion (λ (o : Weighed). o.keeps ≡ true → costs_less is.best o ≡ true) zs) (take_push ys x is.best place is.there) is.first;
}

-- ---- at places of a list

one_more : (xs : List Weighed) (i : ℕ) (x : Weighed) → i < length xs → x ≡ get_or xs i x → take i xs ++ x ∷ [] ≡ take (i + 1) xs
one_more xs i x lt is = ap (λ (y : Weighed). take i xs ++ y ∷ []) is ∙ sym (take_more xs i x lt)

got : (xs : List Weighed) (i p : ℕ) (x : Weighed) → slice_get (take i xs) p ≡ Some x → slice_get xs p ≡ Some x
got [] zero p x e = absurd cc
got [] (suc i) p x e = absurd cc
got (y ∷ xs) zero p x e = absurd cc
got (y ∷ xs) (suc i) zero x e = e
got (y ∷ xs) (suc i) (suc p) x e = got xs i p x e

pub other_at : (xs : List Weighed) (i : ℕ) (best : Option ℕ) (x : Weighed) → i < length xs → x ≡ get_or xs i x → x.keeps ≡ false → IsBestOf (take i xs) best → IsBestOf (take (i + 1) xs) best
other_at xs i best x lt is keeps before = subst (λ (zs : List Weighed). IsBestOf zs best) (one_more xs i x lt is) (other_more (take i xs) best x keeps before)

pub first_at : (xs : List Weighed) (i : ℕ) (x : Weighed) → i < length xs → x ≡ get_or xs i x → x.keeps ≡ true → IsBestOf (take i xs) None → IsBest (take (i + 1) xs) i
first_at xs i x lt is keeps before =
    subst (λ (n : ℕ). IsBest (take (i + 1) xs) n) (length-take-le i xs (omega (arith, lt))) (subst (λ (zs : List Weighed). IsBest zs (length (take i xs))) (one_more xs i x lt is) (first_one (take i xs) x keeps before))

-- the best so far is in the list
pub old_there : (xs : List Weighed) (i place : ℕ) → (is : IsBest (take i xs) place) → slice_get xs place ≡ Some is.best
old_there xs i place is = got xs i place is.best is.there

pub new_at : (xs : List Weighed) (i place : ℕ) (x old : Weighed) → i < length xs → x ≡ get_or xs i x → old ≡ get_or xs place old → x.keeps ≡ true → IsBest (take i xs) place → costs_less x old ≡ true → IsBest (take (i + 1) xs) i
new_at xs i place x old lt is was keeps before cheap =
    let same : old ≡ before.best = was ∙ get_or_from_slice_get xs place before.best old (old_there xs i place before) in
    subst (λ (n : ℕ). IsBest (take (i + 1) xs) n) (length-take-le i xs (omega (arith, lt)))
    (subst (λ (zs : List Weighed). IsBest zs (length (take i xs))) (one_more xs i x lt is) (new_best (take i xs) x place keeps before (ap (λ (o : Weighed). costs_less x o) (sym same) ∙ cheap)))

pub old_at : (xs : List Weighed) (i place : ℕ) (x old : Weighed) → i < length xs → x ≡ get_or xs i x → old ≡ get_or xs place old → IsBest (take i xs) place → costs_less x old ≡ false → IsBest (take (i + 1) xs) place
old_at xs i place x old lt is was before dear =
    let same : old ≡ before.best = was ∙ get_or_from_slice_get xs place before.best old (old_there xs i place before) in
    subst (λ (zs : List Weighed). IsBest zs place) (one_more xs i x lt is) (old_best (take i xs) x place before (ap (λ (o : Weighed). costs_less x o) (sym same) ∙ dear))

-- the one at a place keeps what is asked, or whatever is there does
pub keeps_at : (xs : List Weighed) (i : ℕ) (x : Weighed) → i < length xs → x ≡ get_or xs i x → IfSome (slice_get xs i) (λ one. one.keeps ≡ true) → x.keeps ≡ true
keeps_at [] i x lt is keeps = absurd (omega (arith, lt))
keeps_at (y ∷ xs) zero x lt is keeps = ap (λ (one : Weighed). one.keeps) is ∙ keeps
keeps_at (y ∷ xs) (suc i) x lt is keeps = keeps_at xs i x (omega (arith, lt)) is keeps

pub keeps_there : (xs : List Weighed) (i : ℕ) (x : Weighed) → i < length xs → x ≡ get_or xs i x → x.keeps ≡ true → IfSome (slice_get xs i) (λ one. one.keeps ≡ true)
keeps_there [] i x lt is keeps = absurd (omega (arith, lt))
keeps_there (y ∷ xs) zero x lt is keeps = ap (λ (one : Weighed). one.keeps) (sym is) ∙ keeps
keeps_there (y ∷ xs) (suc i) x lt is keeps = keeps_there xs i x (omega (arith, lt)) is keeps
