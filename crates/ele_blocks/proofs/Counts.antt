-- Values beside the counts of their owners.
use Rattle.ele_blocks.proofs.Words.{[], ap, arith, cond, count_by, Counted, get_or, get_or-set_other, get_or-set_same, get_or_past, HasRoomFor, IfSome, is_some, leaving, length, length-set, List, nat_tests, None, Option, option_map, Owned, owners, owners_of, place_at, refl, released, replicate, set, Sets, shared, Slab, slab_len, Some, suc, sum_by-cons, zero, ℕ, ◌++◌, ◌+◌, ◌-◌, ◌<◌, ◌∷◌, ◌≡◌, ◌≢◌, ◌≤◌}
use Rattle.ele_blocks.specs.SharedInside.{counted, counted_with, with_count}

module _ {X : Type 0} where
  pub place-counted : (values : List (Option X)) (counts : List ℕ) (id : ℕ) → place_at (counted values counts) id ≡ option_map (with_count (get_or counts id 0)) (get_or values id None)
  place-counted [] counts id = refl
  place-counted (v ∷ vs) [] id = grind (arith, nat_tests, place-counted vs [] (id - 1))
  place-counted (v ∷ vs) (c ∷ cs) id = grind (arith, nat_tests, place-counted vs cs (id - 1))

  pub count-counted : (values : List (Option X)) (counts : List ℕ) → count_by is_some (counted values counts) ≡ count_by is_some values
  count-counted [] counts = refl
  count-counted (v ∷ vs) [] = grind (arith, count-counted vs [], sum_by-cons (λ (o : Option X). cond (is_some o) 1 0) v vs, sum_by-cons (λ (o : Option (Counted X)). cond (is_some o) 1 0) (option_map (with_count 0) v) (counted vs []))
  count-counted (v ∷ vs) (c ∷ cs) = grind (arith, count-counted vs cs, sum_by-cons (λ (o : Option X). cond (is_some o) 1 0) v vs, sum_by-cons (λ (o : Option (Counted X)). cond (is_some o) 1 0) (option_map (with_count c) v) (counted vs cs))

  -- places of no owner more
  pub counted-more : (values : List (Option X)) (counts : List ℕ) (n : ℕ) → counted values (counts ++ replicate n 0) ≡ counted values counts
  counted-more [] counts n = refl
  counted-more (v ∷ vs) [] zero = refl
  counted-more (v ∷ vs) [] (suc n) = ap (λ rest. option_map (with_count 0) v ∷ rest) (counted-more vs [] n)
  counted-more (v ∷ vs) (c ∷ cs) n = rw (counted-more vs cs n) refl

  pub owners-counted : (values : List (Option X)) (counts : List ℕ) (id : ℕ) → 0 < owners (counted values counts) id → owners (counted values counts) id ≡ get_or counts id 0
  owners-counted vs cs id lt = grind (arith, place-counted)

  -- what has an owner has its count
  pub is_counted : (values : List (Option X)) (counts : List ℕ) (id : ℕ) → 0 < owners (counted values counts) id → id < length counts
  is_counted vs cs id lt = grind (arith, nat_tests, get_or_past, owners-counted)

  pub sets_more : (values : List (Option X)) (counts : List ℕ) (id : ℕ) → 0 < owners (counted values counts) id → Sets (counted values counts) (counted values (set counts id (get_or counts id 0 + 1))) id (shared (place_at (counted values counts) id))
  sets_more vs cs id lt = grind (arith, place-counted, is_counted, get_or-set_same, get_or-set_other)

  pub sets_less : (values : List (Option X)) (counts : List ℕ) (id : ℕ) → 0 < owners (counted values counts) id → 1 < get_or counts id 0 → Sets (counted values counts) (counted values (set counts id (get_or counts id 0 - 1))) id (released (place_at (counted values counts) id))
  sets_less vs cs id lt many = grind (arith, nat_tests, place-counted, is_counted, get_or-set_same, get_or-set_other)

  pub none_leaves : (place : Option (Counted X)) → 1 < owners_of place → leaving place ≡ None
  none_leaves o lt = grind (arith, nat_tests)

  pub sets_gone : (values new : List (Option X)) (counts : List ℕ) (id : ℕ) → owners (counted values counts) id ≤ 1 → get_or new id None ≡ None → ((other : ℕ) → other ≢ id → get_or new other None ≡ get_or values other None) → Sets (counted values counts) (counted new counts) id (released (place_at (counted values counts) id))
  sets_gone vs new cs id le gone others = grind (arith, nat_tests, place-counted)

  pub leaves_with_last : (values : List (Option X)) (counts : List ℕ) (id : ℕ) → owners (counted values counts) id ≤ 1 → leaving (place_at (counted values counts) id) ≡ get_or values id None
  leaves_with_last vs cs id le = grind (arith, nat_tests, place-counted)

  pub sets_new : (values new : List (Option X)) (counts : List ℕ) (id : ℕ) (value : X) → id < length counts → get_or new id None ≡ Some value → ((other : ℕ) → other ≢ id → get_or new other None ≡ get_or values other None) → Sets (counted values counts) (counted new (set counts id 1)) id (Some (record { value = value; owners = 1 }))
  sets_new vs new cs id v lt is others = grind (arith, place-counted, get_or-set_same, get_or-set_other)

  -- each value has an owner afterwards, if what changed has
  pub owned_after : (old new : List (Option (Counted X))) (id : ℕ) (place : Option (Counted X)) → Owned old → Sets old new id place → IfSome place (λ p. 0 < p.owners) → Owned new
  owned_after old new id place owned sets has q = grind (arith, nat_tests)

  pub owned_more : (values : List (Option X)) (counts : List ℕ) (id : ℕ) → Owned (counted values counts) → 0 < owners (counted values counts) id → Owned (counted values (set counts id (get_or counts id 0 + 1)))
  owned_more vs cs id owned lt = owned_after _ _ id _ owned (sets_more vs cs id lt) (grind (arith, owned id))

  pub owned_less : (values : List (Option X)) (counts : List ℕ) (id : ℕ) → Owned (counted values counts) → 0 < owners (counted values counts) id → 1 < get_or counts id 0 → Owned (counted values (set counts id (get_or counts id 0 - 1)))
  owned_less vs cs id owned lt many = owned_after _ _ id _ owned (sets_less vs cs id lt many) (grind (arith, nat_tests))

  pub owned_gone : (values new : List (Option X)) (counts : List ℕ) (id : ℕ) → Owned (counted values counts) → owners (counted values counts) id ≤ 1 → get_or new id None ≡ None → ((other : ℕ) → other ≢ id → get_or new other None ≡ get_or values other None) → Owned (counted new counts)
  owned_gone vs new cs id owned le gone others = owned_after _ _ id _ owned (sets_gone vs new cs id le gone others) (grind (arith, nat_tests))

  pub owned_new : (values new : List (Option X)) (counts : List ℕ) (id : ℕ) (value : X) → Owned (counted values counts) → id < length counts → get_or new id None ≡ Some value → ((other : ℕ) → other ≢ id → get_or new other None ≡ get_or values other None) → Owned (counted new (set counts id 1))
  owned_new vs new cs id v owned lt is others = owned_after _ _ id _ owned (sets_new vs new cs id v lt is others) (omega arith)

  -- room in both
  pub room_of : (values : Slab X) (counts : List ℕ) (more : ℕ) → HasRoomFor values more → values.capacity ≤ length counts → HasRoomFor (counted_with values counts) more
  room_of values counts more room le = grind (arith, nat_tests, count-counted)

  pub room_in : (values : Slab X) (counts : List ℕ) (more : ℕ) → HasRoomFor (counted_with values counts) (1 + more) → HasRoomFor values (1 + more) × (values.capacity ≤ length counts)
  room_in values counts more room = grind (arith, nat_tests, count-counted)

  pub room_after : (values new : Slab X) (counts : List ℕ) (id : ℕ) → slab_len new ≡ slab_len values + 1 → new.capacity ≡ values.capacity → (more : ℕ) → HasRoomFor (counted_with values counts) (1 + more) → HasRoomFor (counted_with new (set counts id 1)) more
  room_after values new counts id longer same more room = grind (arith, room_in values counts more room, room_of new (set counts id 1) more, length-set counts id 1)

  -- a count that changes takes no room
  pub room_same : (values : Slab X) (counts : List ℕ) (id n : ℕ) (more : ℕ) → HasRoomFor (counted_with values counts) more → HasRoomFor (counted_with values (set counts id n)) more
  room_same values counts id n more room = grind (arith, nat_tests, count-counted, length-set counts id n)
