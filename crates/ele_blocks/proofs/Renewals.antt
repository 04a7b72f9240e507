-- New leaves in place of others: blocks are put, those that stay are shared, leaves are put, and the
-- old leaves released.
use Rattle.ele_blocks.proofs.Lemmas.{[], Adds, ap, AreBacked, AreThere, arith, backing, bytes_at, cell_by, cell_of, cells_each, chunks_joined, Counted, Covers, drop, flat_map-map, Hands, hands_then, hands_with, ids_of, IsLaid, IsRenewed, laid_over, laid_over-map, leaf_at, leaf_count, leaf_there, length, length-drop, length-map, length-take-le, List, map, nat_tests, Option, owners, parts, Slot, slot_by, slots_in, slots_least, Some, stay_in, Store, sym, take, times, times-ids, times-le-length, times-split, Trades, unwrap_or, value_at, values_stay, ℕ, ◌++◌, ◌+◌, ◌<◌, ◌^◌, ◌∙◌, ◌≡◌, ◌≤◌}
use Rattle.ele_blocks.proofs.Distincts.{Blocks}
use Rattle.std.proofs.lemmas.Simd.{map-map}
use Rattle.std.proofs.lemmas.List.{map-id}

-- values that are there are the lists
pub values_are : {X : Type 0} (s : List (Option (Counted (List X)))) (ids : List ℕ) (xs : List (List X)) → map (value_at s) ids ≡ map (λ x. Some x) xs → map (λ id. unwrap_or (value_at s id) []) ids ≡ xs
values_are {X = X} s ids xs h = sym (map-map (λ (v : Option (List X)). unwrap_or v []) (value_at s) ids) ∙ (ap (map (λ (v : Option (List X)). unwrap_or v [])) h ∙ (map-map (λ (v : Option (List X)). unwrap_or v []) (λ (x : List X). Some x) xs ∙ map-id xs))

pub times_laid : (window : List Slot) (first w : ℕ) (fresh : List ℕ) (q : ℕ) → times q (ids_of (laid_over first (map (slot_by w) fresh) window)) ≡ times q (ids_of (take first window)) + (times q fresh + times q (ids_of (drop (first + length fresh) window)))
times_laid window first w fresh q = rw (← (length-map fresh (slot_by w))) (grind (arith, times-ids q (take first window) (map (slot_by w) fresh ++ drop (first + length (map (slot_by w) fresh)) window), times-ids q (map (slot_by w) fresh) (drop (first + length (map (slot_by w) fresh)) window), map-map (λ (slot : Slot). slot.block) (slot_by w) fresh, map-id fresh))

-- new blocks are there, and those around their place are to be shared
pub record IsStaged (s b1 : Blocks) (window : List Slot) (first : ℕ) (fresh : List ℕ) : Type 0 where
  pub within : first ≤ length window
  pub there : (id : ℕ) → 0 < times id (ids_of window) → 0 < owners s id
  pub few : (id : ℕ) → 0 < times id (ids_of window) → owners s id < 2 ^ 62
  pub small : length window + length fresh < 2 ^ 61
  pub adds : Adds s b1 fresh

module _ {s b1 : Blocks} {window : List Slot} {first : ℕ} {fresh : List ℕ} (h : IsStaged s b1 window first fresh) where
  pub front_ready : (id : ℕ) → 0 < times id (ids_of (take first window)) → (0 < owners b1 id) × (owners b1 id + length (take first window) ≤ 2 ^ 63)
  front_ready id some = grind (arith, h.there id, h.few id, h.adds.trades.owed id, h.adds.fresh id, h.small, times-split id first window, length-take-le first window h.within)

  module _ (b2 : Blocks) (shared : Trades b1 b2 [] (ids_of (take first window))) where
    abbrev back : List Slot
    back = drop (first + length fresh) window

    pub back_ready : (id : ℕ) → 0 < times id (ids_of (drop (first + length fresh) window)) → (0 < owners b2 id) × (owners b2 id + length (drop (first + length fresh) window) ≤ 2 ^ 63)
    back_ready id some = grind (arith, h, h.few id, h.adds.trades.owed id, h.adds.fresh id, h.there id, shared.owed id, times-split id (first + length fresh) window, times-le-length id (ids_of (take first window)), length-map (take first window) (λ (x : Slot). x.block), length-take-le first window h.within, length-drop (first + length fresh) window)

    pub is_laid : (b3 : Blocks) (w : ℕ) (staged : List (List ℕ)) (slots : List Slot) → Trades b2 b3 [] (ids_of (drop (first + length fresh) window)) → map (value_at b1) fresh ≡ map (λ x. Some x) staged → slots ≡ laid_over first (map (slot_by w) fresh) window → IsLaid s b3 window first w staged slots
    is_laid b3 w staged slots more values are =
        grind (arith, h.adds, values_stay b2 b3 [] (ids_of back) fresh more (λ id. omega (arith, h.adds.trades.owed id, shared.owed id)), values_stay b1 b2 [] (ids_of (take first window)) fresh shared (λ id. omega (arith, h.adds.trades.owed id)), times_laid)

-- new leaves hold the slots, and the old ones go
pub record HaveCome (s mid : Store) (window : List Slot) (first w : ℕ) (staged : List (List ℕ)) (slots : List Slot) (now was : List ℕ) : Type 0 where
  pub there : AreThere s window
  pub laid : IsLaid s.blocks mid.blocks window first w staged slots
  pub puts : Adds s.leaves mid.leaves now
  pub values : map (value_at mid.leaves) now ≡ map (λ x. Some x) (parts slots)
  pub backs : (id : ℕ) → backing mid.leaves id ≡ backing s.leaves id + times id (ids_of slots)
  pub owned : Covers s.leaves was
  pub backed : AreBacked s (slots_in s was)

module _ {s mid : Store} {window : List Slot} {first w : ℕ} {staged : List (List ℕ)} {slots : List Slot} {now was : List ℕ} (h : HaveCome s mid window first w staged slots now was) where
  same_cells : (xs : List Slot) → AreThere s xs → map (cell_of mid) xs ≡ map (cell_of s) xs
  same_cells xs stand = cells_each s mid xs (λ id some. ap (λ v. unwrap_or v []) (h.laid.kept id (stand id some)))

  came : Hands s mid (λ q. 0) (λ q. times q now)
  came = grind (arith, nat_tests, same_cells)

  now_parts : map (leaf_at mid) now ≡ parts slots
  now_parts = values_are mid.leaves now (parts slots) h.values

  now_slots : slots_in mid now ≡ slots
  now_slots = grind (arith, flat_map-map (λ (leaf : List Slot). leaf) (leaf_at mid) now, now_parts, chunks_joined 16 (omega arith) (leaf_count (length slots)) slots)

  now_cells : map (cell_of mid) (slots_in mid now) ≡ laid_over first (map (cell_by w) staged) (map (cell_of s) window)
  now_cells = grind (arith, now_slots, h.laid.are, laid_over-map (cell_of mid) first (map (slot_by w) h.laid.blocks) window, map-map (cell_of mid) (slot_by w) h.laid.blocks, map-map (cell_by w) (bytes_at mid) h.laid.blocks, values_are mid.blocks h.laid.blocks staged h.laid.values, same_cells window h.there)

  pub was_backed : AreBacked mid (slots_in mid was)
  was_backed id some = grind (arith, stay_in s mid _ _ was came (λ q lt. omega (arith, lt, h.owned.owned q)) (leaf_there s was h.backed), h.backed id, h.laid.owed id, h.backs id)

  pub renewed : (u : Store) → Hands mid u (λ q. times q was) (λ q. 0) → IsRenewed s u was window first w staged now
  renewed u went =
      let stay = stay_in mid u _ _ now went (λ q lt. omega (arith, lt, h.owned.owned q, h.puts.trades.owed q)) (λ q lt id some. omega (arith, some, slots_least mid now q id lt, ap (λ xs. times id (ids_of xs)) now_slots, h.laid.owed id)) in
      grind (arith, stay, h.laid, now_parts, now_cells, length-map, ap length h.laid.values, hands_with s u _ _ (λ q. times q was) (λ q. times q now) (λ q. 0) (hands_then s mid u _ _ _ _ came went))
