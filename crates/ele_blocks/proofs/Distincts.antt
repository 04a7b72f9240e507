-- The blocks of a store are as many as its maps name.
use Rattle.ele_blocks.proofs.Lemmas.{get_or-set_same, get_or-set_other, get_or_past, length-set, [], AreOneToOne, arith, backing, backing_some, blocks_of, cond, count_by, Counted, different, eqb, false, ids_of, inl, inr, is_place, is_some, IsIn, Layout, leaf_at, List, list_any, ltb, map, Named, named, nat_tests, None, Option, Owes, Owned, owners_at, Place, place_at, refl, set, slots_backed, slots_least, slots_of, Store, suc, sum_by-cons, times, times-append, true, zero, ℕ, ◌+◌, ◌<◌, ◌∷◌, ◌≡◌, ◌≤◌}

abbrev pub Blocks : Type 0
Blocks = List (Option (Counted (List ℕ)))

pub self_eq : (x : ℕ) → eqb x x ≡ true
self_eq x = grind (arith, nat_tests)

taken_out : (s : Blocks) (id : ℕ) → is_some (place_at s id) ≡ true → count_by is_some (set s id None) + 1 ≡ count_by is_some s
taken_out [] id h = cc
taken_out (x ∷ xs) zero h = grind (arith, sum_by-cons (λ (y : Option (Counted (List ℕ))). cond (is_some y) 1 0) x xs, sum_by-cons (λ (y : Option (Counted (List ℕ))). cond (is_some y) 1 0) None xs)
taken_out (x ∷ xs) (suc id) h = grind (arith, sum_by-cons (λ (y : Option (Counted (List ℕ))). cond (is_some y) 1 0) x xs, sum_by-cons (λ (y : Option (Counted (List ℕ))). cond (is_some y) 1 0) x (set xs id None), taken_out xs id h)

none_stand : (s : Blocks) → ((q : ℕ) → is_some (place_at s q) ≡ false) → count_by is_some s ≡ 0
none_stand [] h = refl
none_stand (x ∷ xs) h = grind (arith, sum_by-cons (λ (y : Option (Counted (List ℕ))). cond (is_some y) 1 0) x xs, h 0, none_stand xs (λ q. h (suc q)))

-- if exactly the numbers of a list are used, they are as many as the list has different ones
standing_different : (ids : List ℕ) (s : Blocks) → ((q : ℕ) → is_some (place_at s q) ≡ list_any (λ (y : ℕ). eqb y q) ids) → count_by is_some s ≡ different eqb ids
standing_different [] s h = none_stand s h
standing_different (x ∷ xs) s h = grind (arith, nat_tests, standing_different xs s, standing_different xs (set s x None), taken_out s x, get_or-set_same, get_or-set_other, get_or_past, length-set, h x, self_eq x)

any_times : (q : ℕ) (xs : List ℕ) → list_any (λ (y : ℕ). eqb y q) xs ≡ ltb 0 (times q xs)
any_times q [] = refl
any_times q (x ∷ xs) = grind (arith, nat_tests, any_times q xs)

-- a block that a map names is named by a leaf, and a leaf's by a map
map_backs : (s : Store) (id : ℕ) (ms : List Layout) → 0 < times id (blocks_of s ms) → 0 < backing s.leaves id
map_backs s id [] lt = absurd (omega (arith, lt))
map_backs s id (m ∷ ms) lt = grind (arith, slots_backed s m.leaves id, map_backs s id ms, times-append id (ids_of (slots_of s m)) (blocks_of s ms))

leaf_names : (s : Store) (leaf id : ℕ) (ms : List Layout) → 0 < named leaf ms → times id (ids_of (leaf_at s leaf)) ≤ times id (blocks_of s ms)
leaf_names s leaf id [] lt = absurd (omega (arith, lt))
leaf_names s leaf id (m ∷ ms) lt = grind (arith, slots_least s m.leaves leaf id, leaf_names s leaf id ms, times-append id (ids_of (slots_of s m)) (blocks_of s ms))

-- in a store that owes the maps a block has an owner if they name it
named_owned : (s : Store) (maps : List Layout) → Owned s.leaves → Owes s maps → (id : ℕ) → 0 < owners_at s id → 0 < times id (blocks_of s maps)
named_owned s maps owned owes id lt = let by = backing_some s.leaves id (omega (arith, lt, owes.backed id)) in grind (arith, owned by.leaf, by, leaf_names s by.leaf id maps, owes.counted by.leaf)

pub distinct_named : (s : Store) (maps : List Layout) → Owned s.blocks → Owned s.leaves → Owes s maps → count_by is_some s.blocks ≡ different eqb (blocks_of s maps)
distinct_named s maps blocks leaves owes = standing_different (blocks_of s maps) s.blocks (λ q. grind (arith, nat_tests, blocks q, named_owned s maps leaves owes q, map_backs s q maps, owes.backed q, any_times q (blocks_of s maps)))

-- one to one, there are as many places as blocks
any_same : (n : Named) (ns : List Named) → ((q : Named) → IsIn q ns → is_place q.place n.place ≡ eqb q.block n.block) → list_any (λ (y : Place). is_place y n.place) (map (λ (m : Named). m.place) ns) ≡ list_any (λ (y : ℕ). eqb y n.block) (map (λ (m : Named). m.block) ns)
any_same n [] h = refl
any_same n (x ∷ xs) h = rw (h x (inl refl), any_same n xs (λ q i. h q (inr i))) refl

pub as_many : (ns : List Named) → AreOneToOne ns → different is_place (map (λ (m : Named). m.place) ns) ≡ different eqb (map (λ (m : Named). m.block) ns)
as_many [] h = refl
as_many (x ∷ xs) h = rw (any_same x xs (λ q i. h q x (inr i) (inl refl)), as_many xs (λ p q i j. h p q (inr i) (inr j))) refl
