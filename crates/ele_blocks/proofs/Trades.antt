-- How owners change hands, one change after another.
use Rattle.ele_blocks.proofs.Words.{[], Adds, ap, append_assoc, arith, Counted, Covers, drop, eqb, false, get_or, ids_of, length, length-map, length-take-le, List, map, map-append, map_more, nat_tests, None, Option, owners, owners_of, place_at, refl, released, Sets, shared, Slot, Some, sym, take, take-append-drop, times, Trades, value_at, value_of, ℕ, ◌++◌, ◌+◌, ◌<◌, ◌^◌, ◌∙◌, ◌∷◌, ◌≡◌, ◌≤◌, take_more}

pub times-append : (id : ℕ) (xs ys : List ℕ) → times id (xs ++ ys) ≡ times id xs + times id ys
times-append id [] ys = omega arith
times-append id (x ∷ xs) ys = omega (arith, times-append id xs ys)

pub times-le-length : (q : ℕ) (xs : List ℕ) → times q xs ≤ length xs
times-le-length q [] = omega arith
times-le-length q (x ∷ xs) = grind (arith, nat_tests, times-le-length q xs)

module _ {X : Type 0} where
  -- one place changes, and its owners by those that are removed and added
  trades_set : (old new : List (Option (Counted X))) (id : ℕ) (b : Option (Counted X)) (was now : List ℕ) → Sets old new id b → ((q : ℕ) → eqb id q ≡ false → (times q was ≡ 0) × (times q now ≡ 0)) → owners_of b + times id was ≡ owners old id + times id now → (times id was < owners old id → value_of b ≡ value_at old id) → Trades old new was now
  trades_set old new id b was now h apart count keeps = record { owed = λ q. grind (arith, nat_tests, h.changed, h.others q, apart q, count); kept = λ q. grind (arith, nat_tests, h.changed, h.others q, keeps) }

  -- a value is kept under an unused number
  pub trades_put : (old new : List (Option (Counted X))) (id : ℕ) (x : X) → place_at old id ≡ None → Sets old new id (Some (record { value = x; owners = 1 })) → Trades old new [] (id ∷ [])
  trades_put old new id x vacant h = grind (arith, nat_tests, trades_set)

  -- a value gets an owner more
  pub trades_share : (old new : List (Option (Counted X))) (id : ℕ) → 0 < owners old id → Sets old new id (shared (place_at old id)) → Trades old new [] (id ∷ [])
  trades_share old new id lt h = grind (arith, nat_tests, trades_set)

  -- a value loses an owner
  pub trades_release : (old new : List (Option (Counted X))) (id : ℕ) → 0 < owners old id → Sets old new id (released (place_at old id)) → Trades old new (id ∷ []) []
  trades_release old new id lt h = grind (arith, nat_tests, trades_set)

  -- one after the other
  pub trades_then : (a b c : List (Option (Counted X))) (was now was2 now2 : List ℕ) → Trades a b was now → Trades b c was2 now2 → Trades a c (was ++ was2) (now ++ now2)
  trades_then a b c was now was2 now2 h k = grind (arith, nat_tests, times-append)

  -- what is owned beside what goes keeps its value
  pub values_stay : (s t : List (Option (Counted X))) (was now xs : List ℕ) → Trades s t was now → ((id : ℕ) → times id was + times id xs ≤ owners s id) → map (value_at t) xs ≡ map (value_at s) xs
  values_stay s t was now [] h owned = refl
  values_stay s t was now (x ∷ xs) h owned = grind (arith, nat_tests, h.kept x, owned x, values_stay s t was now xs h (λ q. omega (arith, owned q)))

  -- the values kept so far, and those that are still to be kept
  pub record PutsSoFar (s0 s : List (Option (Counted X))) (ids : List ℕ) (rest all : List X) : Type 0 where
    pub adds : Adds s0 s ids
    pub values : map (value_at s) ids ++ map (λ x. Some x) rest ≡ map (λ x. Some x) all

  pub puts_more : (s0 s t : List (Option (Counted X))) (ids : List ℕ) (x : X) (rest all : List X) (id : ℕ) → PutsSoFar s0 s ids (x ∷ rest) all → place_at s id ≡ None → Sets s t id (Some (record { value = x; owners = 1 })) → PutsSoFar s0 t (ids ++ id ∷ []) rest all
  puts_more s0 s t ids x rest all id h vacant sets = grind (arith, nat_tests, trades_then, trades_put, times-append, map-append, values_stay s t [] (id ∷ []) ids (trades_put s t id x vacant sets) (λ q. omega (arith, h.adds.trades.owed q)), append_assoc, ap value_of sets.changed)

-- a list so far, and one more
module _ (ids : List ℕ) (k : ℕ) (lt : k < length ids) where
  pub times_next : (q : ℕ) → times q (take (k + 1) ids) ≡ times q (take k ids) + times q (get_or ids k 0 ∷ [])
  times_next q = grind (arith, take_more ids k 0 lt, times-append)

  pub one_more : times (get_or ids k 0) (take k ids) + 1 ≤ times (get_or ids k 0) ids
  one_more = grind (arith, nat_tests, times_next (get_or ids k 0), take-append-drop (k + 1) ids, times-append (get_or ids k 0) (take (k + 1) ids) (drop (k + 1) ids))

pub times-ids : (q : ℕ) (xs ys : List Slot) → times q (ids_of (xs ++ ys)) ≡ times q (ids_of xs) + times q (ids_of ys)
times-ids q xs ys = grind (arith, map-append, times-append)

pub times-split : (q n : ℕ) (xs : List Slot) → times q (ids_of xs) ≡ times q (ids_of (take n xs)) + times q (ids_of (drop n xs))
times-split q n xs = ap (λ ys. times q (ids_of ys)) (sym (take-append-drop n xs)) ∙ times-ids q (take n xs) (drop n xs)

-- the slots so far, and one more
module _ (slots : List Slot) (k : ℕ) (slot : Slot) (lt : k < length slots) (is : slot ≡ get_or slots k slot) where
  ids_more : ids_of (take (k + 1) slots) ≡ ids_of (take k slots) ++ slot.block ∷ []
  ids_more = map_more (λ (x : Slot). x.block) slots k slot lt ∙ ap (λ (x : Slot). ids_of (take k slots) ++ x.block ∷ []) (sym is)

  pub slot_next : (q : ℕ) → times q (ids_of (take (k + 1) slots)) ≡ times q (ids_of (take k slots)) + times q (slot.block ∷ [])
  slot_next q = grind (arith, ids_more, times-append)

  slot_more : times slot.block (ids_of (take k slots)) + 1 ≤ times slot.block (ids_of slots)
  slot_more = grind (arith, nat_tests, slot_next slot.block, times-split slot.block (k + 1) slots)

  pub slot_named : 0 < times slot.block (ids_of slots)
  slot_named = omega (arith, slot_more)

  module _ {X : Type 0} {s0 s : List (Option (Counted X))} where
    pub release_next : Covers s0 (ids_of slots) → Trades s0 s (ids_of (take k slots)) [] → 0 < owners s slot.block
    release_next covers h = omega (arith, slot_more, covers.owned slot.block, h.owed slot.block)

    pub release_more : (t : List (Option (Counted X))) → Covers s0 (ids_of slots) → Trades s0 s (ids_of (take k slots)) [] → Sets s t slot.block (released (place_at s slot.block)) → Trades s0 t (ids_of (take (k + 1) slots)) []
    release_more t covers h sets = rw ids_more (trades_then s0 s t (ids_of (take k slots)) [] (slot.block ∷ []) [] h (trades_release s t slot.block (release_next covers h) sets))

    pub share_next : 0 < owners s0 slot.block → Trades s0 s [] (ids_of (take k slots)) → 0 < owners s slot.block
    share_next there h = omega (arith, there, h.owed slot.block)

    pub share_few : Trades s0 s [] (ids_of (take k slots)) → owners s0 slot.block + length slots ≤ 2 ^ 63 → owners s slot.block < 2 ^ 63
    share_few h few = grind (arith, times-le-length, length-map, length-take-le)

    pub share_more : (t : List (Option (Counted X))) → 0 < owners s0 slot.block → Trades s0 s [] (ids_of (take k slots)) → Sets s t slot.block (shared (place_at s slot.block)) → Trades s0 t [] (ids_of (take (k + 1) slots))
    share_more t there h sets = rw ids_more (trades_then s0 s t [] (ids_of (take k slots)) [] (slot.block ∷ []) h (trades_share s t slot.block (share_next there h) sets))
