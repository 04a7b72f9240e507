-- New slots over the first slots of a map, and new leaves in place of the run of those that they meet.
use Rattle.ele_blocks.proofs.Lemmas.{[], ap, append-nil, append_assoc, AreBacked, AreSized, AreThere, arith, backed_there, cell_by, cell_of, chunks_joined, cond, Covers, drop, drop-append-le, drop-drop, drop_all, flat-drop, flat-take, flat_map, flat_map-append, flat_map-map, get_or, get_or-map, hands_with, ids_of, inl, is_between, IsRenewed, IsReplaced, laid_at, laid_over, Layout, leaf_at, leaf_count, leaf_there, leaves-count, length, length-append, length-chunks, length-drop, length-laid_over, length-map, length-take, length-take-le, List, LivesIn, map, map-append, map-id, max, min, nat_tests, owners_at, parts, Renews, shown, sized-append, sized-chunks, sized-count, sized-drop, sized-is, sized-length, sized-map, sized-take, slice_get, slice_get-get_or, slice_get-take, Slot, slot_by, slot_count, slots-count, slots_in, slots_of, stay_in, StayIn, Store, sym, take, take-add, take-append-drop, take-append-le, take-map, take-take, take_all, take_at, times, times-append, times-split, one_more, whole_is, ℕ, ◌*◌, ◌++◌, ◌+◌, ◌-◌, ◌/◌, ◌<◌, ◌∙◌, ◌≡◌, ◌≤◌, ◌⊎◌}
use Rattle.ele_blocks.proofs.Words.{drop-append-add, take-append-add}
use Rattle.ele_blocks.proofs.Renewals.{times_laid}

-- what is laid over the middle of a list, or over its end
laid_apart : {X : Type 0} (first at : ℕ) (new front middle back : List X) → first ≡ length front + at → at ≤ length middle → (at + length new ≤ length middle) ⊎ (back ≡ []) → laid_over first new (front ++ (middle ++ back)) ≡ front ++ (laid_over at new middle ++ back)
laid_apart first at new front middle back is within fit = grind (arith, fit, is, drop-append-le, append-nil, take-append-add front (middle ++ back) at, take-append-le at middle back within, drop-append-add front (middle ++ back) (at + length new), append_assoc)

-- new slots by a writer over the first slots of a map: those are renewed
laid_renews : (s t : Store) (was now : Layout) (w first kept : ℕ) (fresh : List ℕ) → LivesIn s was → first ≤ kept → kept ≤ length (slots_of s was) → ((id : ℕ) → 0 < owners_at s id → times id fresh ≡ 0) → ((id : ℕ) → times id fresh ≤ 1) → slots_of t now ≡ laid_over first (map (slot_by w) fresh) (take kept (slots_of s was)) → Renews s t w (is_between first (first + length fresh)) was now
laid_renews s t was now w first kept fresh lives le kept_le new one is =
    let old = take kept (slots_of s was) in
    let count = length-map fresh (slot_by w) in
    let few = length-take-le kept (slots_of s was) kept_le in
    let within : first ≤ length old = omega (arith, few, le) in
    let none : Slot = record { writer = 0; block = 0 } in
    let at : (slot : ℕ) → slice_get (slots_of t now) slot ≡ cond (is_between first (first + length fresh) slot) (slice_get (map (slot_by w) fresh) (slot - first)) (slice_get old slot) = λ slot. rw (is, ← count) (laid_at first (map (slot_by w) fresh) old within none slot) in
    record {
      fresh = λ slot yes.
          grind (arith, nat_tests, at slot, slice_get-get_or (map (slot_by w) fresh) (slot - first) none, get_or-map (slot_by w) fresh (slot - first) 0 none, new (get_or fresh (slot - first) 0), one_more fresh (slot - first), count);
      stays = λ slot no lt. grind (arith, nat_tests, length-laid_over first (map (slot_by w) fresh) old within, is, at slot, slice_get-take none kept slot (slots_of s was));
      once = λ id zero. grind (arith, backed_there s was.leaves lives.backed id, ap (λ xs. times id (ids_of xs)) is, times_laid old first w fresh id, one id, times-split id kept (slots_of s was), times-split id first old, times-split id (first + length fresh) old);
    }

-- what a change asks, and the run of leaves that it meets: those before met have slots that are kept
pub record IsRun (s : Store) (m : Layout) (staged : List (List ℕ)) (first kept from met to : ℕ) : Type 0 where
  pub lives : LivesIn s m
  pub le : first ≤ kept
  pub kept_le : kept ≤ slot_count m.size
  pub behind : first + length staged < kept → kept ≡ slot_count m.size
  pub is_from : from ≡ first / 16
  pub is_met : met ≡ min ((first + length staged + 15) / 16) (leaf_count (slot_count m.size))
  pub to_end : kept ≤ 16 * met → to ≡ leaf_count (slot_count m.size)
  pub to_met : 16 * met < kept → to ≡ met

module _ {s : Store} {m : Layout} {staged : List (List ℕ)} {first kept from met to : ℕ} (h : IsRun s m staged first kept from met to) where
  abbrev pub front : List ℕ
  front = take from m.leaves

  abbrev pub was : List ℕ
  was = take (to - from) (drop from m.leaves)

  abbrev pub back : List ℕ
  back = drop to m.leaves

  abbrev pub window : List Slot
  window = take (kept - 16 * from) (slots_in s (take (met - from) (drop from m.leaves)))

  sized : AreSized 16 (leaf_at s) (slot_count m.size) m.leaves
  sized = (whole_is s m h.lives.whole).leaves

  long : length (slots_of s m) ≡ slot_count m.size
  long = slots-count s m h.lives.whole

  order_of : (from ≤ met) × (met ≤ to) × (to ≤ leaf_count (slot_count m.size)) × (met ≤ leaf_count (slot_count m.size))
  order_of = (omega arith, grind (arith, h.to_met, h.to_end), grind (arith, h.to_met, h.to_end), omega arith)

  in_three : m.leaves ≡ front ++ (was ++ back)
  in_three = grind (arith, order_of, drop-drop (to - from) from m.leaves, take-append-drop (to - from) (drop from m.leaves), take-append-drop from m.leaves)

  part_slots : (a d : ℕ) → slots_in s (take d (drop a m.leaves)) ≡ take (16 * d) (drop (16 * a) (slots_of s m))
  part_slots a d = flat-take 16 (leaf_at s) (omega arith) d (slot_count m.size - 16 * a) (drop a m.leaves) (sized-drop 16 (leaf_at s) (omega arith) a (slot_count m.size) m.leaves sized) ∙ ap (take (16 * d)) (flat-drop 16 (leaf_at s) (omega arith) a (slot_count m.size) m.leaves sized)

  front_slots : slots_in s front ≡ take (16 * from) (slots_of s m)
  front_slots = flat-take 16 (leaf_at s) (omega arith) from (slot_count m.size) m.leaves sized

  back_slots : slots_in s back ≡ drop (16 * to) (slots_of s m)
  back_slots = flat-drop 16 (leaf_at s) (omega arith) to (slot_count m.size) m.leaves sized

  front_long : length (slots_in s front) ≡ 16 * from
  front_long = grind (arith, front_slots, length-take-le (16 * from) (slots_of s m), long)

  -- what a renewal of the run asks
  pub part_owned : (a d : ℕ) → Covers s.leaves (take d (drop a m.leaves))
  part_owned a d = record { owned = λ q. omega (arith, h.lives.owned.owned q, ap (times q) (take-append-drop a m.leaves), ap (times q) (take-append-drop d (drop a m.leaves)), times-append q (take a m.leaves) (drop a m.leaves), times-append q (take d (drop a m.leaves)) (drop d (drop a m.leaves))) }

  fewer : (a d id : ℕ) → times id (ids_of (slots_in s (take d (drop a m.leaves)))) ≤ times id (ids_of (slots_of s m))
  fewer a d id = omega (arith, ap (λ xs. times id (ids_of xs)) (part_slots a d), times-split id (16 * d) (drop (16 * a) (slots_of s m)), times-split id (16 * a) (slots_of s m))

  pub part_backed : (a d : ℕ) → AreBacked s (slots_in s (take d (drop a m.leaves)))
  part_backed a d id some = h.lives.backed id (omega (arith, some, fewer a d id))

  pub window_there : AreThere s window
  window_there id some = backed_there s m.leaves h.lives.backed id (omega (arith, some, fewer from (met - from) id, times-split id (kept - 16 * from) (slots_in s (take (met - from) (drop from m.leaves)))))

  window_long : length window ≡ min (kept - 16 * from) (min (16 * (met - from)) (slot_count m.size - 16 * from))
  window_long = omega (arith, length-take (kept - 16 * from) (slots_in s (take (met - from) (drop from m.leaves))), ap length (part_slots from (met - from)), length-take (16 * (met - from)) (drop (16 * from) (slots_of s m)), length-drop (16 * from) (slots_of s m), long)

  none_behind : kept ≤ 16 * met → back ≡ []
  none_behind end = drop_all to m.leaves (omega (arith, h.to_end end, leaves-count s m h.lives.whole))

  fit : (first - 16 * from + length staged ≤ length window) ⊎ (slots_in s back ≡ [])
  fit = grind (arith, nat_tests, window_long, order_of, none_behind)

  pub inside : first - 16 * from ≤ length window
  inside = omega (arith, window_long, order_of)

  cut : take kept (slots_of s m) ≡ slots_in s front ++ (window ++ slots_in s back)
  cut = grind (arith, long, order_of, h.to_met, h.behind, none_behind, front_slots, back_slots, part_slots from (met - from), take_all kept (slots_of s m), take_all (kept - 16 * from) (take (16 * (met - from)) (drop (16 * from) (slots_of s m))), length-take (16 * (met - from)) (drop (16 * from) (slots_of s m)), take-take (kept - 16 * from) (16 * (met - from)) (drop (16 * from) (slots_of s m)), drop-drop (16 * (met - from)) (16 * from) (slots_of s m), take-append-drop (16 * (met - from)) (drop (16 * from) (slots_of s m)), take-append-drop (16 * from) (slots_of s m), append-nil (take (kept - 16 * from) (drop (16 * from) (slots_of s m))), take-add (16 * from) (kept - 16 * from) (slots_of s m))

  -- the new leaves in their places
  module _ {t : Store} {w : ℕ} {now : List ℕ} (renewed : IsRenewed s t was window (first - 16 * from) w staged now) where
    abbrev laid : List Slot
    laid = laid_over (first - 16 * from) (map (slot_by w) renewed.blocks) window

    count : length (map (slot_by w) renewed.blocks) ≡ length staged
    count = length-map renewed.blocks (slot_by w) ∙ renewed.count

    laid_long : length laid ≡ first - 16 * from + length staged + (length window - (first - 16 * from + length staged))
    laid_long = omega (arith, length-laid_over (first - 16 * from) (map (slot_by w) renewed.blocks) window inside, count)

    now_long : length now ≡ leaf_count (length laid)
    now_long = sym (length-map now (leaf_at t)) ∙ (ap length renewed.leaves ∙ length-chunks 16 (leaf_count (length laid)) laid)

    pub now_room : from + length now ≤ leaf_count (slot_count m.size) + ((first + length staged + 15) / 16 - leaf_count (slot_count m.size))
    now_room = omega (arith, now_long, laid_long, window_long, order_of)

    pub placed : take (from + length now + (length m.leaves - to)) (laid_over from now m.leaves) ≡ front ++ (now ++ back)
    placed = grind (arith, nat_tests, leaves-count, length-append, length-take-le, order_of, now_long, laid_long, window_long, h.to_met, take_all, length-drop, length-take, none_behind, append_assoc, take_at, append-nil)

    times_old : (q : ℕ) → times q m.leaves ≡ times q was + (times q front + times q back)
    times_old q = omega (arith, ap (times q) in_three, times-append q front (was ++ back), times-append q was back)

    stays : (part : List ℕ) → ((q : ℕ) → times q part ≤ times q front + times q back) → StayIn s t part
    stays part few = stay_in s t _ _ part renewed.hands (λ q some. omega (arith, some, few q, times_old q, h.lives.owned.owned q)) (λ q some. leaf_there s m.leaves h.lives.backed q (omega (arith, some, few q, times_old q)))

    front_stays : StayIn s t front
    front_stays = stays front (λ q. omega arith)

    back_stays : StayIn s t back
    back_stays = stays back (λ q. omega arith)

    now_slots : slots_in t now ≡ laid
    now_slots = sym (flat_map-map (λ (leaf : List Slot). leaf) (leaf_at t) now) ∙ (ap (flat_map (λ (leaf : List Slot). leaf)) renewed.leaves ∙ chunks_joined 16 (omega arith) (leaf_count (length laid)) laid (omega arith))

    module _ (new : Layout) (is : new.leaves ≡ front ++ (now ++ back)) where
      new_slots : slots_of t new ≡ laid_over first (map (slot_by w) renewed.blocks) (take kept (slots_of s m))
      new_slots = grind (arith, is, cut, flat_map-append (leaf_at t) front (now ++ back), flat_map-append (leaf_at t) now back, front_stays.slots, back_stays.slots, now_slots, laid_apart first (first - 16 * from) (map (slot_by w) renewed.blocks) (slots_in s front) window (slots_in s back), front_long, inside, count, fit)

      new_cells : shown t new ≡ laid_over first (map (cell_by w) staged) (take kept (shown s m))
      new_cells =
          let g = cell_of s in
          let by = map (cell_by w) staged in
          grind (arith, is, cut, flat_map-append (leaf_at t) front (now ++ back), flat_map-append (leaf_at t) now back, map-append (cell_of t) (slots_in t front) (slots_in t now ++ slots_in t back), map-append (cell_of t) (slots_in t now) (slots_in t back), front_stays.cells, back_stays.cells, renewed.cells, take-map g kept (slots_of s m), map-append g (slots_in s front) (window ++ slots_in s back), map-append g window (slots_in s back), laid_apart first (first - 16 * from) by (map g (slots_in s front)) (map g window) (map g (slots_in s back)), front_long, length-map (slots_in s front) g, inside, length-map window g, length-map staged (cell_by w), fit)

      filled : AreSized 16 (leaf_at t) (length (slots_of t new)) new.leaves
      filled =
          let n = slot_count m.size in
          let head = sized-map 16 (leaf_at s) (leaf_at t) (16 * from) front front (sym front_stays.leaves) (sized-is 16 (leaf_at s) (omega arith) (min n (16 * from)) (16 * from) front (omega arith) (sized-take 16 (leaf_at s) (omega arith) from n m.leaves sized)) in
          let mid = sized-map 16 (λ leaf. leaf) (leaf_at t) (length laid) (parts laid) now (map-id (parts laid) ∙ sym renewed.leaves) (sized-chunks 16 (omega arith) (leaf_count (length laid)) laid (omega arith) (omega arith)) in
          let tail = sized-map 16 (leaf_at s) (leaf_at t) (n - 16 * to) back back (sym back_stays.leaves) (sized-drop 16 (leaf_at s) (omega arith) to n m.leaves sized) in
          let even : (length laid ≡ 16 * length now) ⊎ (n - 16 * to ≡ 0) = grind (arith, h.to_end, now_long, laid_long, window_long, order_of) in
          let joined : AreSized 16 (leaf_at t) (16 * from + (length laid + (n - 16 * to))) new.leaves = rw is (sized-append 16 (leaf_at t) (omega arith) (16 * from) (length laid + (n - 16 * to)) front (now ++ back) head (sized-append 16 (leaf_at t) (omega arith) (length laid) (n - 16 * to) now back mid tail even) (inl (ap (λ j. 16 * j) (sym (length-take-le from m.leaves (omega (arith, leaves-count s m h.lives.whole, order_of))))))) in
          rw (sized-length 16 (leaf_at t) (omega arith) (16 * from + (length laid + (n - 16 * to))) new.leaves joined) joined

      pub replaced : IsReplaced s t w first kept staged m new
      replaced = grind (arith, new_cells, filled, renewed.count, laid_renews s t m new w first kept renewed.blocks h.lives h.le (omega (arith, long)) renewed.fresh renewed.once new_slots, hands_with s t _ _ (λ q. times q m.leaves) (λ q. times q new.leaves) (λ q. times q front + times q back) renewed.hands times_old (λ q. omega (arith, ap (times q) is, times-append q front (now ++ back), times-append q now back)))

      -- a leaf for each 16 slots
      pub leaves_new : length new.leaves ≡ leaf_count (max kept (first + length staged))
      leaves_new = omega (arith, sized-count 16 (leaf_at t) (omega arith) (length (slots_of t new)) new.leaves filled, ap length new_slots, length-laid_over first (map (slot_by w) renewed.blocks) (take kept (slots_of s m)) (omega (arith, length-take kept (slots_of s m), long)), count, length-take kept (slots_of s m), long)
