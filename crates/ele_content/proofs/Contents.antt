-- The content that a write or a truncate leaves.
use Rattle.std.proofs.Common.{◌≡◌, ℕ, suc, zero, ◌+◌, ◌-◌, ◌*◌, ◌≤◌, true, refl, List, [], ◌∷◌, length, take, drop, map, sym, ◌∙◌, arith, length-append, length-drop, cond}
use Rattle.std.specs.Prelude.{min}
use Rattle.std.specs.List.{range_with_len}
use Rattle.std.proofs.Math.Seq.{take-add}
use Rattle.std.proofs.lemmas.Bool.Decides.{nat_tests}
use Rattle.std.proofs.lemmas.List.{length-take, length-replicate, drop-drop, take_all}
use Rattle.std.proofs.lemmas.List.Concat.{flat_map-cons}
use Rattle.ele_content.specs.declared.cell.Cell.{Cell}
use Rattle.ele_content.specs.Content.{content_of, longest_content, fill_slots, content_after_write, slot_bytes, slot_count, cells_after_write, writer_at, meets, content_after_truncate, cells_after_truncate}

abbrev slot_cell : (ℕ → ℕ) → List ℕ → ℕ → Cell
slot_cell writer content slot = record { writer = writer slot; bytes = slot_bytes content slot }

-- slots side by side are one piece of the content
slots_join : (writer : ℕ → ℕ) (content : List ℕ) (from count : ℕ) → content_of (map (slot_cell writer content) (range_with_len from count)) ≡ take (512 * count) (drop (512 * from) content)
slots_join writer content from zero = grind arith
slots_join writer content from (suc count) =
    grind (arith, flat_map-cons (λ (cell : Cell). cell.bytes), slots_join writer content (from + 1) count, drop-drop 512 (512 * from) content, take-add 512 (512 * count) (drop (512 * from) content))

-- all of them are the content
slots_whole : (writer : ℕ → ℕ) (content : List ℕ) (n : ℕ) → n ≡ length content → content_of (map (slot_cell writer content) (range_with_len 0 (slot_count n))) ≡ content
slots_whole writer content n is = slots_join writer content 0 (slot_count n) ∙ take_all (512 * slot_count n) content (omega (arith, is))

-- what is written and then read is the bytes laid over what was there
pub content_of-written : (writer offset : ℕ) (bytes : List ℕ) (cells : List Cell) → content_of (cells_after_write writer offset bytes cells) ≡ content_after_write (content_of cells) offset bytes
unfolding cells_after_write
content_of-written writer offset bytes cells = slots_whole _ (content_after_write (content_of cells) offset bytes) _ refl

-- it ends with the longer of both
pub length-spliced : (content : List ℕ) (offset most : ℕ) (bytes : List ℕ) → length content ≤ most → offset + length bytes ≤ most → length (content_after_write content offset bytes) ≤ most
length-spliced content offset most bytes short fits =
    simp (length-append, length-take, length-replicate, length-drop) (omega arith)

pub written_short : (writer offset : ℕ) (bytes : List ℕ) (cells : List Cell) → length (content_of cells) ≤ longest_content → offset + length bytes ≤ longest_content → length (content_of (cells_after_write writer offset bytes cells)) ≤ longest_content
written_short writer offset bytes cells short fits = rw content_of-written (length-spliced (content_of cells) offset longest_content bytes short fits)

-- a content that is made so long is so long
length-resized : (content : List ℕ) (size : ℕ) → length (content_after_truncate content size) ≡ size
length-resized content size = simp (length-append, length-take, length-replicate) (omega arith)

pub content_of-truncated : (writer size : ℕ) (cells : List Cell) → content_of (cells_after_truncate writer size cells) ≡ content_after_truncate (content_of cells) size
unfolding cells_after_truncate
content_of-truncated writer size cells = slots_whole _ (content_after_truncate (content_of cells) size) size (sym (length-resized (content_of cells) size))

pub truncated_short : (writer size : ℕ) (cells : List Cell) → size ≤ longest_content → length (content_of (cells_after_truncate writer size cells)) ≤ longest_content
truncated_short writer size cells fits = rw (content_of-truncated, length-resized) fits

-- slots side by side are filled, if they are as many as the rest of the content has
slots_fill : (writer : ℕ → ℕ) (content : List ℕ) (from count n : ℕ) → n ≡ length content - 512 * from → count ≡ slot_count n → fill_slots n (map (slot_cell writer content) (range_with_len from count)) ≡ true
slots_fill writer content from zero n is few = let none : n ≡ 0 = omega arith in rw none refl
slots_fill writer content from (suc count) n is few =
    let rest = slots_fill writer content (from + 1) count (n - 512) (omega arith) (omega arith) in
    let here : length (slot_bytes content from) ≡ min n 512 = simp (length-take, length-drop) (omega (arith, is)) in
    grind (arith, nat_tests)

pub written_fills : (writer offset : ℕ) (bytes : List ℕ) (cells : List Cell) → fill_slots (length (content_of (cells_after_write writer offset bytes cells))) (cells_after_write writer offset bytes cells) ≡ true
unfolding cells_after_write
written_fills writer offset bytes cells =
    let new : List ℕ = content_after_write (content_of cells) offset bytes in
    rw content_of-written (slots_fill (λ slot. cond (meets (min offset (length (content_of cells))) (offset + length bytes) slot) writer (writer_at cells slot)) new 0 (slot_count (length new)) (length new) (omega arith) refl)

pub truncated_fills : (writer size : ℕ) (cells : List Cell) → fill_slots (length (content_of (cells_after_truncate writer size cells))) (cells_after_truncate writer size cells) ≡ true
unfolding cells_after_truncate
truncated_fills writer size cells = rw (content_of-truncated, length-resized) (slots_fill _ (content_after_truncate (content_of cells) size) 0 _ size (omega (arith, length-resized (content_of cells) size)) refl)

-- each slot has a byte at least
pub slots_few : (n : ℕ) (cells : List Cell) → fill_slots n cells ≡ true → length cells ≤ n
slots_few n [] fills = omega arith
slots_few n (cell ∷ cells) fills = grind (arith, nat_tests, slots_few (n - 512) cells)
