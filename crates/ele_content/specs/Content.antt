-- The content of cells, and the cells after a write and a truncate.
use Rattle.std.specs.Prelude.{ℕ, ◌+◌, ◌-◌, ◌*◌, ◌/◌, ◌==◌, nat_lt, min, Bool, ◌&&◌, List, [], ◌∷◌, ◌++◌, length, take, drop, map, replicate, slice_get, if◌then◌else◌}
use Rattle.std.specs.List.{flat_map, range_with_len}
use Rattle.std.specs.Option.{option_map_or}
use Rattle.ele_content.specs.declared.cell.Cell.{Cell}

-- the bytes of the cells, one cell after another
abbrev pub content_of : List Cell → List ℕ
content_of cells = flat_map (λ cell. cell.bytes) cells

-- how many bytes a content may have
abbrev pub longest_content : ℕ
longest_content = 1048576

-- the cells hold so many bytes, 512 each, and the last one 1 to 512
abbrev pub fill_slots : ℕ → List Cell → Bool
fill_slots n [] = n == 0
fill_slots n (cell ∷ cells) = (length cell.bytes == min n 512) && (nat_lt 0 n && fill_slots (n - 512) cells)

-- the content with the bytes written over it from the offset on; if it ends before the offset, zeros fill it up to there
abbrev pub content_after_write : List ℕ → ℕ → List ℕ → List ℕ
content_after_write content offset bytes =
    take offset content ++ replicate (offset - length content) 0 ++ bytes ++ drop (offset + length bytes) content

-- slot s has the bytes from 512 * s up to 512 * s + 511, the last slot maybe fewer
abbrev pub slot_bytes : List ℕ → ℕ → List ℕ
slot_bytes content slot = take 512 (drop (512 * slot) content)

abbrev pub slot_count : ℕ → ℕ
slot_count len = (len + 511) / 512

-- who last wrote the slot
abbrev pub writer_at : List Cell → ℕ → ℕ
writer_at cells slot = option_map_or (λ cell. cell.writer) (slice_get cells slot) 0

-- some byte of the slot is in the range from one place until before another
abbrev pub meets : ℕ → ℕ → ℕ → Bool
meets from to slot = nat_lt from to && (nat_lt (512 * slot) to && nat_lt from (512 * slot + 512))

-- the cells after a write: the new content by slots, where each slot that meets what was filled or written has the writer
unfoldable pub cells_after_write : ℕ → ℕ → List ℕ → List Cell → List Cell
cells_after_write writer offset bytes cells =
    let old = content_of cells in
    let new = content_after_write old offset bytes in
    let from = min offset (length old) in
    map (λ slot. record {
      writer = if meets from (offset + length bytes) slot then writer else writer_at cells slot;
      bytes = slot_bytes new slot;
    }) (range_with_len 0 (slot_count (length new)))

-- the content's bytes up to this length, followed by zeros if it is shorter
abbrev pub content_after_truncate : List ℕ → ℕ → List ℕ
content_after_truncate content len = take len content ++ replicate (len - length content) 0

-- the place is between two bytes of the slot
abbrev pub cuts : ℕ → ℕ → Bool
cuts place slot = nat_lt (512 * slot) place && nat_lt place (512 * slot + 512)

-- a truncate from one length to another rewrites the slots that it fills, and the slot that it cuts
abbrev pub refits : ℕ → ℕ → ℕ → Bool
refits old new slot = if nat_lt old new then meets old new slot else nat_lt new old && cuts new slot

-- the cells after a truncate: the new content by slots, where each slot that was filled or cut has the writer
unfoldable pub cells_after_truncate : ℕ → ℕ → List Cell → List Cell
cells_after_truncate writer len cells =
    let old = content_of cells in
    let new = content_after_truncate old len in
    map (λ slot. record {
      writer = if refits (length old) len slot then writer else writer_at cells slot;
      bytes = slot_bytes new slot;
    }) (range_with_len 0 (slot_count len))
