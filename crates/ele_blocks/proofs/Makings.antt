-- New slots, one after another, and the leaves that hold them.
use Rattle.ele_blocks.proofs.Lemmas.{[], ap, append-nil, append_assoc, arith, backing, cell_of, cells_each, chunks_joined, flat_map-map, Hands, ids_of, Layout, leaf_at, leaf_count, length, length-map, List, map, map-append, nat_tests, owners, parts, refl, Slot, slot_count, slots_in, Some, Store, sym, times, times-ids, times-le-length, Trades, unwrap_or, value_at, values_stay, ℕ, ◌++◌, ◌+◌, ◌<◌, ◌^◌, ◌∙◌, ◌∷◌, ◌≡◌, ◌≤◌, AreThere, map-id, Adds}
use Rattle.ele_blocks.proofs.Words.{AreSized, fills, get_or, is_whole, longest_content, subst, suc, take, take_more, true, zero}
use Rattle.ele_blocks.proofs.Hands.{hands_with}
use Rattle.ele_blocks.proofs.Renewals.{values_are}
use Rattle.ele_blocks.proofs.Sized.{fills_sized, sized-chunks, sized-count, sized-is, sized-map}
use Rattle.ele_blocks.proofs.Sizes.{bytes_of, is_whole_by}
use Rattle.ele_blocks.proofs.Trades.{trades_then}
use Rattle.ele_blocks.specs.Made.{HasBlock, IsBlockFor, IsMade, IsSlotFor, bytes_for, cell_for}
use Rattle.ele_blocks.specs.Making.{AreMade, ArePut, Blocks, CanTake, Takes, value_for}
use Rattle.ele_blocks.specs.declared.new_slot.NewSlot.{NewSlot}
use Rattle.ele_blocks.specs.declared.new_slot.SlotBytes.{SlotBytes}
use Rattle.ele_blocks.specs.declared.new_slot.SlotBytes.TheVariants.{Shared, Fresh}
use Rattle.std.specs.List.{AllByRecursion, AllZip}

-- ---- one slot more

pub zip_more : (b : Blocks) (news : List NewSlot) (slots : List Slot) (x : NewSlot) (y : Slot) → AllZip (IsSlotFor b) news slots → IsSlotFor b x y → AllZip (IsSlotFor b) (news ++ x ∷ []) (slots ++ y ∷ [])
zip_more b [] [] x y h is = (is, tt)
zip_more b [] (z ∷ zs) x y h is = absurd h
zip_more b (w ∷ ws) [] x y h is = absurd h
zip_more b (w ∷ ws) (z ∷ zs) x y h is = (h.0, zip_more b ws zs x y h.1 is)

module _ (s0 s t : Blocks) (done : List NewSlot) (made : List Slot) (h : AreMade s0 s done made) (x : NewSlot) (y : Slot) (took : Takes s t x.bytes y.block) (writer : y.writer ≡ x.writer) where
  ids : ids_of (made ++ y ∷ []) ≡ ids_of made ++ y.block ∷ []
  ids = map-append (λ (slot : Slot). slot.block) made (y ∷ [])

  moved : Trades s0 t [] (ids_of (made ++ y ∷ []))
  moved = rw ids (trades_then s0 s t [] (ids_of made) [] (y.block ∷ []) h.trades took.trades)

  -- a shared block had its bytes before, and a new one had no owner
  is_from : (bytes : SlotBytes) → HasBlock s0 bytes → IsBlockFor s bytes y.block → (IsBlockFor s0 bytes y.block) × (value_for s bytes ≡ value_for s0 bytes)
  is_from (Shared id) has is = (is, h.trades.kept id has)
  is_from (Fresh bytes) has is = (omega (arith, is, h.trades.owed y.block), refl)

  once_more : (bytes : SlotBytes) → HasBlock s0 bytes → IsBlockFor s bytes y.block → (id : ℕ) → owners s0 id ≡ 0 → times id (ids_of made) + times id (y.block ∷ []) ≤ 1
  once_more (Shared id) has is other none = grind (arith, nat_tests, h.once other none, has, is, none)
  once_more (Fresh bytes) has is other none = grind (arith, nat_tests, h.once other none, h.trades.owed y.block, is, none)

  values_more : (bytes : SlotBytes) → x.bytes ≡ bytes → HasBlock s0 bytes → IsBlockFor s bytes y.block → map (value_at t) (ids_of (made ++ y ∷ [])) ≡ map (λ n. value_for s0 n.bytes) (done ++ x ∷ [])
  values_more bytes e has is = grind (arith, ids, e, map-append (value_at t) (ids_of made) (y.block ∷ []), map-append (λ (n : NewSlot). value_for s0 n.bytes) done (x ∷ []), values_stay s t [] (y.block ∷ []) (ids_of made) took.trades (λ id. omega (arith, h.trades.owed id)), h.values, took.value, is_from bytes has is)

  pub made_more : HasBlock s0 x.bytes → AreMade s0 t (done ++ x ∷ []) (made ++ y ∷ [])
  made_more has = record {
    trades = moved;
    are = zip_more s0 done made x y h.are (writer, (is_from x.bytes has took.is).0);
    values = values_more x.bytes refl has took.is;
    once = λ id none. omega (arith, once_more x.bytes has took.is id none, times-ids id made (y ∷ []));
  }

-- those made so far, and those that are still to be made
pub record MadeSoFar (s0 s : Blocks) (made : List Slot) (rest all : List NewSlot) : Type 0 where
  pub done : List NewSlot
  pub split : done ++ rest ≡ all
  pub are : AreMade s0 s done made

pub none_made : (s : Blocks) (all : List NewSlot) → MadeSoFar s s [] all all
none_made s all = record { done = []; split = refl; are = record { trades = record { owed = λ id. omega arith; kept = λ id some. refl }; are = tt; values = refl; once = λ id none. omega arith } }

pub one_made : (s0 s t : Blocks) (made : List Slot) (x : NewSlot) (y : Slot) (rest all : List NewSlot) → MadeSoFar s0 s made (x ∷ rest) all → (block : ℕ) → Takes s t x.bytes block → y.block ≡ block → y.writer ≡ x.writer → HasBlock s0 x.bytes → MadeSoFar s0 t (made ++ y ∷ []) rest all
one_made s0 s t made x y rest all h block took is writer has = record { done = h.done ++ x ∷ []; split = append_assoc h.done (x ∷ []) rest ∙ h.split; are = made_more s0 s t h.done made h.are x y (rw (sym is) at took) writer has }

pub all_made : (s0 s : Blocks) (made : List Slot) (all : List NewSlot) → MadeSoFar s0 s made [] all → AreMade s0 s all made
all_made s0 s made all h = rw (sym (append-nil h.done) ∙ h.split) at h.are

-- a block that could be taken before can be taken now
pub can_take_now : (s0 s : Blocks) (made : List Slot) (bytes : SlotBytes) → Trades s0 s [] (ids_of made) → length made < 2 ^ 61 → CanTake (2 ^ 62) s0 bytes → CanTake (2 ^ 63) s bytes
can_take_now s0 s made (Shared id) h few can = grind (arith, h.owed id, times-le-length id (ids_of made), length-map made (λ (slot : Slot). slot.block), can)
can_take_now s0 s made (Fresh bytes) h few can = can

pub has_block : (b : Blocks) (many : ℕ) (bytes : SlotBytes) → CanTake many b bytes → HasBlock b bytes
has_block b many (Shared id) can = can.0
has_block b many (Fresh bytes) can = can

-- ---- a list along its places

all_push : {X : Type 0} (P : X → Type 0) (xs : List X) (x : X) → AllByRecursion P xs → P x → AllByRecursion P (xs ++ x ∷ [])
all_push P [] x h p = (p, tt)
all_push P (y ∷ ys) x h p = (h.0, all_push P ys x h.1 p)

pub all_more : {X : Type 0} (P : X → Type 0) (xs : List X) (k : ℕ) (x : X) → k < length xs → x ≡ get_or xs k x → AllByRecursion P (take k xs) → P x → AllByRecursion P (take (k + 1) xs)
all_more P xs k x lt is h p = rw (take_more xs k x lt) (all_push P (take k xs) (get_or xs k x) h (subst P is p))

pub all_at : {X : Type 0} (P : X → Type 0) (xs : List X) (k : ℕ) (x : X) → k < length xs → x ≡ get_or xs k x → AllByRecursion P xs → P x
all_at P [] k x lt is h = absurd (omega (arith, lt))
all_at P (y ∷ ys) zero x lt is h = subst P (sym is) h.0
all_at P (y ∷ ys) (suc k) x lt is h = all_at P ys k x (omega (arith, lt)) is h.1

-- ---- new leaves hold the slots

bytes_are : (s : Store) (bytes : SlotBytes) → unwrap_or (value_for s.blocks bytes) [] ≡ bytes_for s bytes
bytes_are s (Shared id) = refl
bytes_are s (Fresh bytes) = refl

cells_made : (s t : Store) (news : List NewSlot) (slots : List Slot) → AllZip (IsSlotFor s.blocks) news slots → map (value_at t.blocks) (ids_of slots) ≡ map (λ n. value_for s.blocks n.bytes) news → map (cell_of t) slots ≡ map (cell_for s) news
cells_made s t [] [] h e = refl
cells_made s t [] (y ∷ ys) h e = absurd h
cells_made s t (x ∷ xs) [] h e = absurd h
cells_made s t (x ∷ xs) (y ∷ ys) h e = grind (arith, h.0.0, bytes_are s x.bytes, cells_made s t xs ys h.1 (cc))

pub record HavePut (s t : Store) (news : List NewSlot) (slots : List Slot) (now : List ℕ) : Type 0 where
  pub made : AreMade s.blocks t.blocks news slots
  pub puts : Adds s.leaves t.leaves now
  pub values : map (value_at t.leaves) now ≡ map (λ x. Some x) (parts slots)
  pub backs : (id : ℕ) → backing t.leaves id ≡ backing s.leaves id + times id (ids_of slots)

module _ {s t : Store} {news : List NewSlot} {slots : List Slot} {now : List ℕ} (h : HavePut s t news slots now) where
  same_cells : (xs : List Slot) → AreThere s xs → map (cell_of t) xs ≡ map (cell_of s) xs
  same_cells xs stand = cells_each s t xs (λ id some. ap (λ v. unwrap_or v []) (h.made.trades.kept id (stand id some)))

  came : Hands s t (λ q. 0) (λ q. times q now)
  came = grind (arith, nat_tests, same_cells, h.made.trades, h.puts.trades, h.backs)

  now_parts : map (leaf_at t) now ≡ parts slots
  now_parts = values_are t.leaves now (parts slots) h.values

  now_slots : slots_in t now ≡ slots
  now_slots = grind (arith, flat_map-map (λ (leaf : List Slot). leaf) (leaf_at t) now, now_parts, chunks_joined 16 (omega arith) (leaf_count (length slots)) slots)

  pub put : ArePut s t news now
  put = record {
    leaves = now_parts ∙ ap parts (sym now_slots);
    cells = rw now_slots (cells_made s t news slots h.made.are h.made.values);
    slots = rw now_slots h.made.are;
    once = rw now_slots h.made.once;
    hands = came;
  }

-- ---- the map of the leaves

module _ (s t : Store) (count : ℕ) (news : List NewSlot) (whole : fills 512 bytes_of count (map (cell_for s) news) ≡ true) where
  sized_cells : AreSized 512 bytes_of count (map (cell_for s) news)
  sized_cells = fills_sized 512 bytes_of count (map (cell_for s) news) whole

  as_many : length news ≡ slot_count count
  as_many = omega (arith, sized-count 512 bytes_of (omega arith) count (map (cell_for s) news) sized_cells, length-map news (cell_for s))

  pub few_slots : count ≤ longest_content → length news < 2 ^ 61
  few_slots short = omega (arith, as_many, short)

  module _ (leaves : List ℕ) (h : ArePut s t news leaves) where
    abbrev the_slots : List Slot
    the_slots = slots_in t leaves

    slots_many : length the_slots ≡ slot_count count
    slots_many = sym (length-map the_slots (cell_of t)) ∙ (ap length h.cells ∙ (length-map news (cell_for s) ∙ as_many))

    filled : AreSized 16 (leaf_at t) (slot_count count) leaves
    filled = sized-is 16 (leaf_at t) (omega arith) (length the_slots) (slot_count count) leaves slots_many (sized-map 16 (λ leaf. leaf) (leaf_at t) (length the_slots) (parts the_slots) leaves (map-id (parts the_slots) ∙ sym h.leaves) (sized-chunks 16 (omega arith) (leaf_count (length the_slots)) the_slots (omega arith) (omega arith)))

    pub leaves_made : length leaves ≡ leaf_count (slot_count count)
    leaves_made = omega (arith, sized-count 16 (leaf_at t) (omega arith) (slot_count count) leaves filled)

    pub leaves_few : length leaves ≡ leaf_count (length news)
    leaves_few = leaves_made ∙ ap leaf_count (sym as_many)

    pub map_made : count ≤ longest_content → IsMade s t count news (record { size = count; leaves = leaves })
    map_made short =
        let new : Layout = record { size = count; leaves = leaves } in
        let whole_new : is_whole t new ≡ true = is_whole_by t new (record { short = short; bytes = rw h.cells sized_cells; leaves = filled }) in
        let hands = hands_with s t _ _ (λ q. 0) (λ q. times q leaves + 0) (λ q. 0) h.hands (λ q. omega arith) (λ q. omega arith) in
        record { size = refl; cells = h.cells; slots = h.slots; once = h.once; moves = record { hands = hands; whole = grind (arith, nat_tests, whole_new) } }

    -- the map that shows these leaves
    module _ (m : Layout) (size : m.size ≡ count) (same : m.leaves ≡ leaves) (short : count ≤ longest_content) where
      both : m ≡ record { size = count; leaves = leaves }
      both = λ i. record { size = size i; leaves = same i }

      pub map_short : m.size ≤ longest_content
      map_short = rw size short

      pub map_leaves : length m.leaves ≡ leaf_count (slot_count m.size)
      map_leaves = rw (same, size) leaves_made

      pub map_shows : IsMade s t count news m
      map_shows = subst (λ (x : Layout). IsMade s t count news x) (sym both) (map_made short)
