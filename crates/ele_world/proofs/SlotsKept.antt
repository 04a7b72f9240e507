-- A write or a truncate leaves each cell that it doesn't write.
use Rattle.ele_model.proofs.Basics.{nat_tests, arith, ◌≡◌, ℕ, zero, suc, ◌+◌, ◌-◌, ◌*◌, ◌<◌, ◌≤◌, ◌∙◌, Bool, true, false, cond, List, [], ◌∷◌, ◌++◌, length, take, drop, map, Some, refl, sym, ◌⊎◌, inl, inr, slice_get, take_all, nil_from_length, false≢true, length-append, length-drop, append-nil, append_assoc}
use Rattle.ele_model.proofs.Words.{Cell, content_of, writer_at}
use Rattle.std.specs.Prelude.{min, replicate}
use Rattle.std.specs.List.{range_with_len}
use Rattle.std.proofs.Math.Seq.{drop-append-add}
use Rattle.std.proofs.lemmas.List.{length-take, length-replicate, drop-drop, drop-append-le, take-append-le, take-append-drop}
use Rattle.ele_content.specs.Content.{fill_slots, content_after_write, content_after_truncate, slot_bytes, slot_count, meets, refits, cells_after_write, cells_after_truncate}

-- ---- the bytes of a slot

-- it lies in the first of two parts
in_front : (a : ℕ) (xs ys : List ℕ) → a + 512 ≤ length xs → take 512 (drop a (xs ++ ys)) ≡ take 512 (drop a xs)
in_front a xs ys le = rw (drop-append-le a xs ys (omega (arith, le))) (take-append-le 512 (drop a xs) ys (omega (arith, le, length-drop a xs)))

-- so it is the same whatever follows
front_kept : (a k : ℕ) (xs ys : List ℕ) → a + 512 ≤ k → a + 512 ≤ length xs → take 512 (drop a (take k xs ++ ys)) ≡ take 512 (drop a xs)
front_kept a k xs ys le short =
    let long : a + 512 ≤ length (take k xs) = omega (arith, le, short, length-take k xs) in
    in_front a (take k xs) ys long ∙ (sym (in_front a (take k xs) (drop k xs) long) ∙ rw (take-append-drop k xs) refl)

-- what is after the bytes stays
back_kept : (content : List ℕ) (offset n : ℕ) (bytes : List ℕ) → offset + length bytes ≤ n → drop n (content_after_write content offset bytes) ≡ drop n content
back_kept content offset n bytes le = grind (arith, drop-append-add (take offset content ++ replicate (offset - length content) 0 ++ bytes) (drop (offset + length bytes) content) (n - (offset + length bytes)), length-append, length-take, length-replicate, drop-drop)

-- a write of no bytes within the content
nothing_laid : (content : List ℕ) (offset : ℕ) (bytes : List ℕ) → offset + length bytes ≤ min offset (length content) → content_after_write content offset bytes ≡ content
nothing_laid content offset bytes none = grind (arith, nat_tests, none, nil_from_length bytes, append-nil, take-append-drop)

written_kept : (content : List ℕ) (offset slot : ℕ) (bytes : List ℕ) → meets (min offset (length content)) (offset + length bytes) slot ≡ false → slot_bytes (content_after_write content offset bytes) slot ≡ slot_bytes content slot
written_kept content offset slot bytes unmet =
    let rest : List ℕ = replicate (offset - length content) 0 ++ (bytes ++ drop (offset + length bytes) content) in
    let parts : content_after_write content offset bytes ≡ take offset content ++ rest = grind (arith, append_assoc) in
    let front : 512 * slot + 512 ≤ offset → 512 * slot + 512 ≤ length content → slot_bytes (content_after_write content offset bytes) slot ≡ slot_bytes content slot = λ le long. rw parts (front_kept (512 * slot) offset content rest le long) in
    let back : offset + length bytes ≤ 512 * slot → slot_bytes (content_after_write content offset bytes) slot ≡ slot_bytes content slot = λ le. rw (back_kept content offset (512 * slot) bytes le) refl in
    let same : offset + length bytes ≤ min offset (length content) → slot_bytes (content_after_write content offset bytes) slot ≡ slot_bytes content slot = λ le. rw (nothing_laid content offset bytes le) refl in
    grind (arith, nat_tests, unmet, front, back, same)

fitted_kept : (content : List ℕ) (size slot : ℕ) → slot < slot_count size → refits (length content) size slot ≡ false → slot_bytes (content_after_truncate content size) slot ≡ slot_bytes content slot
fitted_kept content size slot lt unmet = grind (arith, nat_tests, front_kept (512 * slot) size content, take_all size content, append-nil content)

-- ---- the cell of a slot

-- the cell at that slot
abbrev cell_of : List Cell → ℕ → Cell
cell_of cells slot = record { writer = writer_at cells slot; bytes = slot_bytes (content_of cells) slot }

pub none_left : (cells : List Cell) → fill_slots 0 cells ≡ true → cells ≡ []
none_left [] fills = refl
none_left (cell ∷ cells) fills = grind (arith, nat_tests, false≢true)

cell_there : (n : ℕ) (cells : List Cell) (slot : ℕ) → fill_slots n cells ≡ true → 512 * slot < n → slice_get cells slot ≡ Some (cell_of cells slot)
cell_there n [] slot fills lt = absurd (grind (arith, nat_tests))
cell_there n (cell ∷ cells) zero fills lt =
    let short : n ≤ 512 → content_of cells ≡ [] = λ le. grind (arith, nat_tests, none_left cells) in
    let own : take 512 (cell.bytes ++ content_of cells) ≡ cell.bytes = grind (arith, nat_tests, short, append-nil cell.bytes, take_all 512 cell.bytes, take-append-le 512 cell.bytes (content_of cells)) in
    rw own refl
cell_there n (cell ∷ cells) (suc slot) fills lt =
    let long : length cell.bytes ≡ 512 = grind (arith, nat_tests) in
    let rest : slice_get cells slot ≡ Some (cell_of cells slot) = cell_there (n - 512) cells slot (grind (arith, nat_tests)) (omega (arith, lt)) in
    let past : drop (512 * suc slot) (cell.bytes ++ content_of cells) ≡ drop (512 * slot) (content_of cells) = grind (arith, long, drop-append-add cell.bytes (content_of cells) (512 * slot)) in
    rw past rest

at_range : (f : ℕ → Cell) (from count slot at : ℕ) (cell : Cell) → at ≡ from + slot → slice_get (map f (range_with_len from count)) slot ≡ Some cell → (slot < count) × (cell ≡ f at)
at_range f from zero slot at cell is found = absurd cc
at_range f from (suc count) zero at cell is found = grind (arith, nat_tests)
at_range f from (suc count) (suc slot) at cell is found = let it = at_range f (from + 1) count slot at cell (omega (arith, is)) found in (omega (arith, it.0), it.1)

-- ---- a cell afterwards

-- it was written by then, or was there
abbrev pub IsRewritten : ℕ → List Cell → ℕ → Cell → Type 0
IsRewritten number cells slot cell = (cell.writer ≡ number) ⊎ (slice_get cells slot ≡ Some cell)

pub cell_written : (number offset : ℕ) (bytes : List ℕ) (cells : List Cell) (slot : ℕ) (cell : Cell) → fill_slots (length (content_of cells)) cells ≡ true → slice_get (cells_after_write number offset bytes cells) slot ≡ Some cell → IsRewritten number cells slot cell
unfolding cells_after_write
cell_written number offset bytes cells slot cell fills found =
    let old = content_of cells in
    let new = content_after_write old offset bytes in
    let test = meets (min offset (length old)) (offset + length bytes) in
    let it = at_range (λ k. record { writer = cond (test k) number (writer_at cells k); bytes = slot_bytes new k }) 0 (slot_count (length new)) slot slot cell (omega arith) found in
    by (test slot) refl it.0 it.1 where
      by : (b : Bool) → meets (min offset (length (content_of cells))) (offset + length bytes) slot ≡ b → slot < slot_count (length (content_after_write (content_of cells) offset bytes)) → cell ≡ record { writer = cond b number (writer_at cells slot); bytes = slot_bytes (content_after_write (content_of cells) offset bytes) slot } → IsRewritten number cells slot cell
      by true met lt is = inl (rw is refl)
      by false unmet lt is = inr (grind (arith, nat_tests, unmet, lt, is, written_kept (content_of cells) offset slot bytes, cell_there (length (content_of cells)) cells slot fills, length-append, length-take, length-replicate, length-drop))

pub cell_fitted : (number size : ℕ) (cells : List Cell) (slot : ℕ) (cell : Cell) → fill_slots (length (content_of cells)) cells ≡ true → slice_get (cells_after_truncate number size cells) slot ≡ Some cell → IsRewritten number cells slot cell
unfolding cells_after_truncate
cell_fitted number size cells slot cell fills found =
    let it = at_range (λ k. record { writer = cond (refits (length (content_of cells)) size k) number (writer_at cells k); bytes = slot_bytes (content_after_truncate (content_of cells) size) k }) 0 (slot_count size) slot slot cell (omega arith) found in
    by (refits (length (content_of cells)) size slot) refl it.0 it.1 where
      by : (b : Bool) → refits (length (content_of cells)) size slot ≡ b → slot < slot_count size → cell ≡ record { writer = cond b number (writer_at cells slot); bytes = slot_bytes (content_after_truncate (content_of cells) size) slot } → IsRewritten number cells slot cell
      by true met lt is = inl (rw is refl)
      by false unmet lt is = inr (grind (arith, nat_tests, unmet, lt, is, fitted_kept (content_of cells) size slot, cell_there (length (content_of cells)) cells slot fills))
