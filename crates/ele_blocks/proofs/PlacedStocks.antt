-- The laws of maps that are made slot by slot.
use Rattle.ele_blocks.proofs.Lemmas.{[], AllByRecursion, ap, arith, Cell, cell_of, inl, inr, IsIn, IsStocked, Layout, List, map, Named, names_in, names_of, nat_tests, owners_at, refl, SameStock, slice_get, Slot, slots_of, Stays, Store, suc, sym, Tagged, zero, ℕ, ⊎_elim, ◌+◌, ◌<◌, ◌∙◌, ◌∷◌, ◌≡◌}
use Rattle.ele_blocks.proofs.OneToOnes.{in_either, name_of, slot_from}
use Rattle.ele_blocks.proofs.Words.{None, Option, Some, ◌≢◌}
use Rattle.ele_blocks.proofs.Placings.{have_placed, made_one_to_one, slots_below}
use Rattle.ele_blocks.proofs.Stocks.{in_same, moves_owes, owned_names, rest_stays, same_in}
use Rattle.ele_blocks.specs.Made.{IsMade, cell_for}
use Rattle.ele_blocks.specs.Placed.{ArePlaced, Finds, HasBytesOf, HaveBytesOf, IsPlaced, IsShownBy, IsShownIn, block_in, slot_with, slots_with}
use Rattle.ele_blocks.specs.PlaceLaws.{PlaceLaws}
use Rattle.ele_blocks.specs.declared.new_slot.NewSlot.{NewSlot}
use Rattle.ele_blocks.specs.declared.placed.PlacedBlocks.{PlacedBlocks}

-- ---- the new slots of cells

placed_with : (p : PlacedBlocks) (file slot : ℕ) (names : List Named) (cell : Cell) (block : Option ℕ) → block_in p slot cell.writer ≡ block → Finds p file names → IsPlaced names (record { file = file; slot = slot; writer = (slot_with block cell).writer }) (slot_with block cell).bytes
placed_with p file slot names cell (Some block) is h = h.named slot cell.writer block is
placed_with p file slot names cell None is h = h.none slot cell.writer is

founds : (p : PlacedBlocks) (file first : ℕ) (names : List Named) (cells : List Cell) → Finds p file names → ArePlaced file first names (slots_with p first cells)
founds p file first names [] h = tt
founds p file first names (cell ∷ cells) h = (placed_with p file first names cell (block_in p first cell.writer) refl h, founds p file (first + 1) names cells h)

writer_with : (block : Option ℕ) (cell : Cell) → (slot_with block cell).writer ≡ cell.writer
writer_with None cell = refl
writer_with (Some block) cell = refl

writers_with : (p : PlacedBlocks) (below first : ℕ) (cells : List Cell) → AllByRecursion (λ (cell : Cell). cell.writer < below) cells → AllByRecursion (λ (new : NewSlot). new.writer < below) (slots_with p first cells)
writers_with p below first [] h = tt
writers_with p below first (cell ∷ cells) h = (omega (arith, writer_with (block_in p first cell.writer) cell, h.0), writers_with p below (first + 1) cells h.1)

cell_with : (s : Store) (block : Option ℕ) (cell : Cell) → HasBytesOf s block cell → cell_for s (slot_with block cell) ≡ cell
cell_with s None cell h = refl
cell_with s (Some block) cell h = rw h refl

cells_with : (s : Store) (p : PlacedBlocks) (first : ℕ) (cells : List Cell) → HaveBytesOf s p first cells → map (cell_for s) (slots_with p first cells) ≡ cells
cells_with s p first [] h = refl
cells_with s p first (cell ∷ cells) h = rw (cell_with s (block_in p first cell.writer) cell h.0, cells_with s p (first + 1) cells h.1) refl

-- ---- a name is shown by a map

slice_get_mapped : (s : Store) (slots : List Slot) (k : ℕ) (x : Slot) → slice_get slots k ≡ Some x → slice_get (map (cell_of s) slots) k ≡ Some (cell_of s x)
slice_get_mapped s [] k x e = absurd cc
slice_get_mapped s (y ∷ ys) zero x e = let same : y ≡ x = cc in rw same refl
slice_get_mapped s (y ∷ ys) (suc k) x e = slice_get_mapped s ys k x e

shown_by : (s : Store) (t : Tagged) (n : Named) → IsIn n (names_of s t.file t.layout) → IsShownBy s n t
shown_by s t n i =
    let h = slot_from n t.file 0 (slots_of s t.layout) i in
    let here : 0 + h.place ≡ h.place = omega arith in
    let is : n ≡ name_of t.file h.place h.cell = h.is ∙ ap (λ k. name_of t.file k h.cell) here in
    let got : slice_get (map (cell_of s) (slots_of s t.layout)) h.place ≡ Some (cell_of s h.cell) = slice_get_mapped s (slots_of s t.layout) h.place h.cell h.got in
    rw is (record { file = refl; cell = got })

shown_in : (s : Store) (ts : List Tagged) (n : Named) → IsIn n (names_in s ts) → IsShownIn s n ts
shown_in s [] n i = i
shown_in s (t ∷ ts) n i = ⊎_elim (λ (a : IsIn n (names_of s t.file t.layout)). inl (shown_by s t n a)) (λ (b : IsIn n (names_in s ts)). inr (shown_in s ts n b)) (in_either n (names_of s t.file t.layout) (names_in s ts) i)

-- ---- a map of them is added

-- every name has a block that is there
names_owned : (s : Store) (ts : List Tagged) → IsStocked s ts → (n : Named) → IsIn n (names_in s ts) → 0 < owners_at s n.block
names_owned s ts h n i = omega (arith, owned_names s n ts h.written i, h.owed.backed n.block)

makes : (s t : Store) (ts : List Tagged) (file below count : ℕ) (news : List NewSlot) (now : Layout) (us : List Tagged) → IsStocked s ts → IsMade s t count news now → ArePlaced file 0 (names_in s ts) news → AllByRecursion (λ (new : NewSlot). new.writer < below) news → SameStock us (record { file = file; below = below; layout = now } ∷ ts) → Stays s t ts us
makes s t ts file below count news now us h made placed early same =
    let new : Tagged = record { file = file; below = below; layout = now } in
    let stay = rest_stays s t [] (now ∷ []) made.moves ts h.owed in
    let one = made_one_to_one s (names_in s ts) (names_owned s ts h) h.one_to_one t file count news now made placed in
    let all : IsStocked t (new ∷ ts) = grind (arith, moves_owes s t [] (now ∷ []) made.moves ts h.owed, stay, one, slots_below s below news (slots_of t now) made.slots early, h.written) in
    record { stocked = in_same t (new ∷ ts) us (record { sums = λ f. sym (same.sums f) }) all; shows = stay.shows }

keep_names : (s t : Store) (ts : List Tagged) (count : ℕ) (news : List NewSlot) (now : Layout) → IsStocked s ts → IsMade s t count news now → names_in t ts ≡ names_in s ts
keep_names s t ts count news now h made = (rest_stays s t [] (now ∷ []) made.moves ts h.owed).names

-- ---- among other maps

finds_ordered : (s : Store) (ts us : List Tagged) (p : PlacedBlocks) (file : ℕ) → SameStock ts us → Finds p file (names_in s ts) → Finds p file (names_in s us)
finds_ordered s ts us p file same h = record {
  named = λ slot writer block e. same_in s us ts (record { sums = λ f. sym (same.sums f) }) _ (h.named slot writer block e);
  none = λ slot writer e n i. h.none slot writer e n (same_in s ts us same n i);
}

other_file : (s : Store) (ts : List Tagged) (file : ℕ) → AllByRecursion (λ (t : Tagged). t.file ≢ file) ts → (n : Named) → IsIn n (names_in s ts) → n.place.file ≢ file
other_file s [] file apart n i = absurd i
other_file s (t ∷ ts) file apart n i =
    ⊎_elim (λ (a : IsIn n (names_of s t.file t.layout)). λ (e : n.place.file ≡ file). apart.0 ((shown_by s t n a).file ∙ e))
    (λ (b : IsIn n (names_in s ts)). other_file s ts file apart.1 n b)
    (in_either n (names_of s t.file t.layout) (names_in s ts) i)

finds_others : (s : Store) (ts : List Tagged) (p : PlacedBlocks) (file : ℕ) → AllByRecursion (λ (t : Tagged). t.file ≢ file) ts → Finds p file [] → Finds p file (names_in s ts)
finds_others s ts p file apart h = record {
  named = λ slot writer block e. absurd (h.named slot writer block e);
  none = λ slot writer e n i. let other = other_file s ts file apart n i in grind (arith, nat_tests, other);
}

pub place_laws : PlaceLaws
place_laws = record {
  found = founds;
  writers = writers_with;
  cells = cells_with;
  ordered = finds_ordered;
  others = finds_others;
  shown = shown_in;
  there = λ s ts file first news h placed. have_placed s (names_in s ts) (names_owned s ts h) file first news placed;
  names = keep_names;
  made = makes;
}
