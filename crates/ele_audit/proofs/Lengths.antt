-- The length of a version's content.
use Rattle.ele_audit.proofs.Basics.{arith, nat_tests, List, drop, drop_more, get_or, length, length-append, ℕ, ◌<◌, ◌+◌, ◌≡◌, Some, find}
use Rattle.std.proofs.lemmas.List.Concat.{flat_map-cons}
use Rattle.std.specs.Prelude.{◌^◌}
use Rattle.ele_content.specs.Content.{content_of}
use Rattle.ele_content.specs.declared.cell.Cell.{Cell}
use Rattle.ele_lists.proofs.Edits.{all-found}
use Rattle.ele_model.specs.WellFormed.{IsVersion, IsWellFormed}
use Rattle.ele_model.specs.World.{World, is_version}
use Rattle.ele_model.specs.declared.rows.VersionRow.{VersionRow}

-- the bytes of the rest of the cells
pub cell_bytes : (cells : List Cell) (i : ℕ) (cell : Cell) → i < length cells → cell ≡ get_or cells i cell → length (content_of (drop i cells)) ≡ length cell.bytes + length (content_of (drop (i + 1) cells))
cell_bytes cells i cell lt is = grind (arith, nat_tests, drop_more, flat_map-cons, length-append)

-- no version of a well-formed world is too long
pub found_short : (w : World) (file number : ℕ) (row : VersionRow) → IsWellFormed w → find (is_version file number) w.versions ≡ Some row → length (content_of row.cells) < 2 ^ 64
found_short w file number row formed found =
    let is = all-found (is_version file number) (IsVersion w.files w.now) w.versions row found formed.versions.each in
    omega (arith, is.content.short)
