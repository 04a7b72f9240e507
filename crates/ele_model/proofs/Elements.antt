-- Elements that pass a test, and a change of one of them.
use Rattle.ele_model.proofs.Basics.{nat_tests, arith, ◌≡◌, Bool, true, false, List, [], ◌∷◌, Option, Some, refl, find, AllByRecursion, list_any, option_map, false≢true, update_first, AllLater, all-found, all-weaker}

-- the element that is found is found changed
pub find-updated : {X : Type 0} (p : X → Bool) (f : X → X) (xs : List X) → ((x : X) → p (f x) ≡ p x) → find p (update_first p f xs) ≡ option_map f (find p xs)
find-updated p f [] keeps = refl
find-updated p f (x ∷ xs) keeps = grind (arith, nat_tests, find-updated p f xs keeps)

-- what sees no change sees the same found
pub find-update_still : {X Y : Type 0} (p t : X → Bool) (sees : Option X → Y) (f : X → X) (xs : List X) → ((x : X) → t (f x) ≡ t x) → ((x : X) → sees (Some (f x)) ≡ sees (Some x)) → sees (find t (update_first p f xs)) ≡ sees (find t xs)
find-update_still p t sees f [] keeps same = refl
find-update_still p t sees f (x ∷ xs) keeps same = grind (arith, nat_tests, find-update_still p t sees f xs keeps same)

-- if each fails, none passes
pub any_none : {X : Type 0} (p : X → Bool) (xs : List X) → AllByRecursion (λ x. p x ≡ false) xs → list_any p xs ≡ false
any_none p [] all = refl
any_none p (x ∷ xs) all = rw all.0 (any_none p xs all.1)

-- once the only element that passes t, which p finds, is changed, none passes t
pub none_left : {X : Type 0} (p t : X → Bool) (f : X → X) (xs : List X) (x : X) → find p xs ≡ Some x → t x ≡ true → ((x : X) → t (f x) ≡ false) → AllLater (λ x y. t x ≡ true → t y ≡ false) xs → AllByRecursion (λ x. t x ≡ false) (update_first p f xs)
none_left p t f [] x found passes fails only = absurd cc
none_left p t f (y ∷ xs) x found passes fails only = grind (arith, nat_tests, all-weaker, all-found, false≢true, none_left p t f xs x)
