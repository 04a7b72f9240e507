-- The sizes of a map that is whole, and the bytes of its slots.
use Rattle.ele_blocks.proofs.Words.{[], ap, AreSized, arith, bytes_at, Cell, cell_of, content_of, drop, get_or, get_or-drop, get_or-map, get_or-take, get_or_from_slice_get, is_whole, Layout, leaf_at, leaf_count, length, length-map, List, LivesIn, longest_content, nat_tests, owners, refl, shown, slice_get, slice_get_read, slice_get_within, Slot, slot_bytes, slot_count, slots_of, Some, Store, take, true, ℕ, ◌%◌, ◌*◌, ◌+◌, ◌/◌, ◌<◌, ◌∙◌, ◌≡◌, ◌≤◌, get_or_default}
use Rattle.ele_blocks.proofs.Trades.{one_more}
use Rattle.ele_blocks.proofs.Sized.{fills_sized, sized_fills, sized-length, sized-count, flat-at}

abbrev pub bytes_of : Cell → List ℕ
bytes_of cell = cell.bytes

abbrev pub no_cell : Cell
no_cell = record { writer = 0; bytes = [] }

module _ (s : Store) (m : Layout) where
  -- what the tests of a whole map say
  pub record IsWhole : Type 0 where
    pub short : m.size ≤ longest_content
    pub bytes : AreSized 512 bytes_of m.size (shown s m)
    pub leaves : AreSized 16 (leaf_at s) (slot_count m.size) m.leaves

  pub whole_is : is_whole s m ≡ true → IsWhole
  whole_is h = record { short = grind (arith, nat_tests, h); bytes = fills_sized 512 bytes_of _ _ (grind (arith, nat_tests, h)); leaves = fills_sized 16 (leaf_at s) _ _ (grind (arith, nat_tests, h)) }

  pub is_whole_by : IsWhole → is_whole s m ≡ true
  is_whole_by h = grind (arith, nat_tests, h, sized_fills 512 bytes_of m.size (shown s m) h.bytes, sized_fills 16 (leaf_at s) (slot_count m.size) m.leaves h.leaves)

  module _ (whole : is_whole s m ≡ true) where
    pub length-content : length (content_of (shown s m)) ≡ m.size
    length-content = sized-length 512 bytes_of (omega arith) m.size (shown s m) (whole_is whole).bytes

    pub slots-count : length (slots_of s m) ≡ slot_count m.size
    slots-count = sized-length 16 (leaf_at s) (omega arith) (slot_count m.size) m.leaves (whole_is whole).leaves

    pub leaves-count : length m.leaves ≡ leaf_count (slot_count m.size)
    leaves-count = omega (arith, sized-count 16 (leaf_at s) (omega arith) (slot_count m.size) m.leaves (whole_is whole).leaves)

    -- the bytes of a slot
    pub its_bytes : (slot : ℕ) (x : Slot) → slice_get (slots_of s m) slot ≡ Some x → bytes_at s x.block ≡ slot_bytes (content_of (shown s m)) slot
    its_bytes slot x got = grind (arith, flat-at 512 bytes_of (omega arith) slot m.size (shown s m) no_cell (whole_is whole).bytes, length-map (slots_of s m) (cell_of s), get_or-map (cell_of s) (slots_of s m) slot x no_cell, slice_get_within (slots_of s m) slot x got, get_or_from_slice_get (slots_of s m) slot x x got)

-- ---- a slot in its leaf

module _ (s : Store) (m : Layout) (lives : LivesIn s m) (slot leaf : ℕ) (lt : slot < slot_count m.size) (is : leaf ≡ get_or m.leaves (slot / 16) leaf) where
  leaf_within : slot / 16 < length m.leaves
  leaf_within = omega (arith, leaves-count s m lives.whole, lt)

  pub leaf_owned : 0 < owners s.leaves leaf
  leaf_owned = grind (arith, one_more m.leaves (slot / 16) leaf_within, get_or_default m.leaves (slot / 16) leaf 0 leaf_within, is, lives.owned.owned leaf)

  pub leaf_is : leaf_at s leaf ≡ take 16 (drop (16 * (slot / 16)) (slots_of s m))
  leaf_is = ap (leaf_at s) is ∙ flat-at 16 (leaf_at s) (omega arith) (slot / 16) (slot_count m.size) m.leaves leaf (whole_is s m lives.whole).leaves leaf_within

-- a leaf of a map, read with another default
pub leaf_read : (s : Store) (m : Layout) → LivesIn s m → (slot : ℕ) → slot < slot_count m.size → get_or m.leaves (slot / 16) 0 ≡ get_or m.leaves (slot / 16) (get_or m.leaves (slot / 16) 0)
leaf_read s m lives slot lt = get_or_default m.leaves (slot / 16) 0 (get_or m.leaves (slot / 16) 0) (omega (arith, leaves-count s m lives.whole, lt))

pub slot_found : {X : Type 0} (xs leaf : List X) (slot : ℕ) (x : X) → leaf ≡ take 16 (drop (16 * (slot / 16)) xs) → slot < length xs → x ≡ get_or leaf (slot % 16) x → slice_get xs slot ≡ Some x
slot_found xs leaf slot x is lt here = let place : 16 * (slot / 16) + slot % 16 ≡ slot = omega arith in
    slice_get_read xs (length xs) slot x refl lt (here ∙ rw (is, get_or-take 16 (drop (16 * (slot / 16)) xs) (slot % 16) x (omega arith), get_or-drop (16 * (slot / 16)) xs (slot % 16) x, place) refl)
