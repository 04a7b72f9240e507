-- How leaves change hands, one change after another.
use Rattle.ele_blocks.proofs.Words.{[], ap, AreBacked, AreThere, arith, backing, bytes_at, cell_of, Counted, Covers, get_or, Hands, ids_of, is_whole, Layout, leaf_at, leaving, length, length-take-le, List, LivesIn, map, map-append, Moves, nat_tests, None, Option, owners, place_at, refl, released, Sets, shared, Slot, slot_count, slots_in, Some, Store, take, times, Trades, true, value_of, ℕ, ◌+◌, ◌<◌, ◌^◌, ◌∷◌, ◌≡◌, ◌≤◌}
use Rattle.ele_blocks.proofs.Sized.{fills-map}
use Rattle.ele_blocks.proofs.Backing.{backing_sets, backing_least, slots_backed, slots_least}
use Rattle.ele_blocks.proofs.Trades.{times-le-length, trades_share, trades_release, one_more, times_next}

pub cells_each : (s t : Store) (slots : List Slot) → ((id : ℕ) → 0 < times id (ids_of slots) → bytes_at t id ≡ bytes_at s id) → map (cell_of t) slots ≡ map (cell_of s) slots
cells_each s t [] same = refl
cells_each s t (x ∷ xs) same = grind (arith, nat_tests, same x.block, cells_each s t xs (λ id lt. same id (omega (arith, lt))))

-- one after the other
pub hands_then : (a b c : Store) (was now was2 now2 : ℕ → ℕ) → Hands a b was now → Hands b c was2 now2 → Hands a c (λ q. was q + was2 q) (λ q. now q + now2 q)
hands_then a b c was now was2 now2 h k = grind (arith, nat_tests)

-- with more that stay on both sides
pub hands_with : (s t : Store) (was now was2 now2 z : ℕ → ℕ) → Hands s t was now → ((q : ℕ) → was2 q ≡ was q + z q) → ((q : ℕ) → now2 q ≡ now q + z q) → Hands s t was2 now2
hands_with s t was now was2 now2 z h e f = grind (arith, e, f)

module _ (s t : Store) (leaf : ℕ) (there : 0 < owners s.leaves leaf) where
  -- if its slots and all blocks stay
  alone : (was now : List ℕ) (place : Option (Counted (List Slot))) → t.blocks ≡ s.blocks → Sets s.leaves t.leaves leaf place → value_of place ≡ value_of (place_at s.leaves leaf) → Trades s.leaves t.leaves was now → Hands s t (λ q. times q was) (λ q. times q now)
  alone was now place same sets value trades = grind (arith, nat_tests, same, value, trades.owed, trades.kept, λ (id : ℕ). backing_sets s.leaves t.leaves leaf place id sets, cells_each s t)

  -- a leaf has an owner more
  pub share_leaf : t.blocks ≡ s.blocks → Sets s.leaves t.leaves leaf (shared (place_at s.leaves leaf)) → Hands s t (λ q. 0) (λ q. times q (leaf ∷ []))
  share_leaf same sets = alone [] (leaf ∷ []) _ same sets (grind (arith, nat_tests)) (trades_share s.leaves t.leaves leaf there sets)

  -- a leaf with other owners has one fewer
  pub leaf_stays : None ≡ leaving (place_at s.leaves leaf) → t.blocks ≡ s.blocks → Sets s.leaves t.leaves leaf (released (place_at s.leaves leaf)) → Hands s t (λ q. times q (leaf ∷ [])) (λ q. 0)
  leaf_stays none same sets = alone (leaf ∷ []) [] _ same sets (grind (arith, nat_tests)) (trades_release s.leaves t.leaves leaf there sets)

  module _ (slots : List Slot) (last : Some slots ≡ leaving (place_at s.leaves leaf)) (backed : AreBacked s (leaf_at s leaf)) where
    its_slots : leaf_at s leaf ≡ slots
    its_slots = grind (arith, nat_tests, last, there)

    -- its blocks count it
    pub leaf_covered : Covers s.blocks (ids_of slots)
    leaf_covered = record { owned = λ id. grind (arith, backed id, backing_least s.leaves leaf id, ap (λ xs. times id (ids_of xs)) its_slots) }

    -- a leaf goes with its last owner, and its blocks have an owner fewer
    pub leaf_goes : Sets s.leaves t.leaves leaf (released (place_at s.leaves leaf)) → Trades s.blocks t.blocks (ids_of slots) [] → Hands s t (λ q. times q (leaf ∷ [])) (λ q. 0)
    leaf_goes sets freed =
        let left : (id : ℕ) → backing t.leaves id + times id (ids_of slots) ≡ backing s.leaves id = λ id. grind (arith, nat_tests, last, there, backing_sets s.leaves t.leaves leaf (released (place_at s.leaves leaf)) id sets, its_slots) in
        grind (arith, trades_release s.leaves t.leaves leaf there sets, left, freed, backed, backing_least, cells_each, its_slots)

-- ---- along a list of leaves: those so far, and one more

module _ (ids : List ℕ) (k : ℕ) (lt : k < length ids) (s0 s t : Store) where
  pub share_leaves_next : Covers s0.leaves ids → Hands s0 s (λ q. 0) (λ q. times q (take k ids)) → 0 < owners s.leaves (get_or ids k 0)
  share_leaves_next covers h = omega (arith, one_more ids k lt, covers.owned (get_or ids k 0), h.leaves (get_or ids k 0))

  pub share_leaves_few : Hands s0 s (λ q. 0) (λ q. times q (take k ids)) → owners s0.leaves (get_or ids k 0) + length ids ≤ 2 ^ 63 → owners s.leaves (get_or ids k 0) < 2 ^ 63
  share_leaves_few h few = omega (arith, h.leaves (get_or ids k 0), times-le-length (get_or ids k 0) (take k ids), length-take-le k ids (omega (arith, lt)), lt, few)

  pub share_leaves_more : Hands s0 s (λ q. 0) (λ q. times q (take k ids)) → Hands s t (λ q. 0) (λ q. times q (get_or ids k 0 ∷ [])) → Hands s0 t (λ q. 0) (λ q. times q (take (k + 1) ids))
  share_leaves_more h one = grind (arith, hands_with, hands_then, times_next ids k lt)

  module _ (covers : Covers s0.leaves ids) (h : Hands s0 s (λ q. times q (take k ids)) (λ q. 0)) where
    pub release_leaves_next : 0 < owners s.leaves (get_or ids k 0)
    release_leaves_next = omega (arith, one_more ids k lt, covers.owned (get_or ids k 0), h.leaves (get_or ids k 0))

    pub release_leaves_backed : AreBacked s0 (slots_in s0 ids) → AreBacked s (leaf_at s (get_or ids k 0))
    release_leaves_backed backed b some = grind (arith, nat_tests, one_more, slots_least)

    pub release_leaves_more : Hands s t (λ q. times q (get_or ids k 0 ∷ [])) (λ q. 0) → Hands s0 t (λ q. times q (take (k + 1) ids)) (λ q. 0)
    release_leaves_more one = hands_with s0 t _ _ (λ q. times q (take (k + 1) ids)) (λ q. 0) (λ q. 0) (hands_then s0 s t _ _ _ _ h one) (λ q. omega (arith, times_next ids k lt q)) (λ q. refl)

-- ---- what stays

-- the leaves have the slots that they had, and show what they showed
pub record StayIn (s t : Store) (ids : List ℕ) : Type 0 where
  pub leaves : map (leaf_at t) ids ≡ map (leaf_at s) ids
  pub slots : slots_in t ids ≡ slots_in s ids
  pub cells : map (cell_of t) (slots_in t ids) ≡ map (cell_of s) (slots_in s ids)

pub stay_in : (s t : Store) (was now : ℕ → ℕ) (ids : List ℕ) → Hands s t was now → ((q : ℕ) → 0 < times q ids → was q < owners s.leaves q) → ((q : ℕ) → 0 < times q ids → AreThere s (leaf_at s q)) → StayIn s t ids
stay_in s t was now [] h owned there = record { leaves = refl; slots = refl; cells = refl }
stay_in s t was now (x ∷ xs) h owned there =
    grind (arith, nat_tests, h.same x, h.shows x, owned x, there x, stay_in s t was now xs h (λ q lt. owned q (omega (arith, lt))) (λ q lt. there q (omega (arith, lt))), map-append)

-- blocks that back are there
pub backed_there : (s : Store) (ids : List ℕ) → AreBacked s (slots_in s ids) → AreThere s (slots_in s ids)
backed_there s ids backed b some = omega (arith, backed b some, slots_backed s ids b some)

pub leaf_there : (s : Store) (ids : List ℕ) → AreBacked s (slots_in s ids) → (q : ℕ) → 0 < times q ids → AreThere s (leaf_at s q)
leaf_there s ids backed q in_it b some = backed_there s ids backed b (omega (arith, some, slots_least s ids q b in_it))

-- ---- what one call moves

-- a map whose leaves stay is as whole
pub whole_same : (s t : Store) (m : Layout) → StayIn s t m.leaves → is_whole t m ≡ is_whole s m
whole_same s t m stay = rw (stay.cells, fills-map 16 (leaf_at t) (leaf_at s) (slot_count m.size) m.leaves stay.leaves) refl

-- one map gives way to another
pub moved_one : (s t : Store) (m n : Layout) → Hands s t (λ q. times q m.leaves) (λ q. times q n.leaves) → is_whole t n ≡ true → Moves s t (m ∷ []) (n ∷ [])
moved_one s t m n h whole = grind (arith, nat_tests, hands_with)

-- a map gets a copy
pub moved_copy : (s t : Store) (m : Layout) → LivesIn s m → Hands s t (λ q. 0) (λ q. times q m.leaves) → Moves s t [] (m ∷ [])
moved_copy s t m lives h = grind (arith, nat_tests, hands_with, whole_same, stay_in, leaf_there)
