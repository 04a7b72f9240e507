-- What is known of writers while versions are gone over. No public clause cites this module.
use Rattle.std.specs.Prelude.{◌≡◌, ℕ, ◌+◌, ◌==◌, ◌&&◌, ◌||◌, nat_lt, Bool, cond, List, [], ◌∷◌, Option, Some, None, find}
use Rattle.std.specs.BTreeMap.{BTreeMap, get}
use Rattle.std.specs.Option.{option_map, option_map_or, option_or}
use Rattle.std.specs.Ordering.{nat_cmp, ordering_then}
use Rattle.std.specs.declared.cmp.Ordering.{Ordering}
use Rattle.ele_content.specs.declared.cell.Cell.{Cell}
use Rattle.ele_lists.specs.Keys.{Rises}
use Rattle.ele_lists.specs.Lists.{AllLater}
use Rattle.ele_model.specs.WellFormed.{ArePlaced}
use Rattle.ele_model.specs.World.{World}
use Rattle.ele_model.specs.declared.rows.VersionRow.{VersionRow}
use Rattle.ele_renewal.specs.Numbers.{has_block, is_written_by, new_version}

-- by file, then by slot, then by writer
abbrev pub block_cmp : ℕ × ℕ × ℕ → ℕ × ℕ × ℕ → Ordering
block_cmp a b = ordering_then (ordering_then (nat_cmp a.0 b.0) (nat_cmp a.1 b.1)) (nat_cmp a.2 b.2)

-- fresh writers by block
abbrev pub Writers : Type 0
Writers = BTreeMap (ℕ × ℕ × ℕ) ℕ

abbrev pub writer_in : Writers → (file slot writer : ℕ) → Option ℕ
writer_in known file slot writer = get block_cmp known (file, slot, writer)

-- the fresh number of the first of the rows that has the block, among all versions
abbrev pub first_in : (all rows : List VersionRow) → (file slot writer : ℕ) → Option ℕ
first_in all rows file slot writer = option_map (λ row. new_version all file row.number) (find (has_block file slot writer) rows)

-- the first of each block of the rows is known
abbrev pub AreFirst : (all rows : List VersionRow) → Writers → Type 0
AreFirst all rows known = (file slot writer : ℕ) → writer_in known file slot writer ≡ first_in all rows file slot writer

-- the blocks of a version are known too, by its number if they weren't before
abbrev pub AddsBlocks : (old new : Writers) → (file number : ℕ) → List Cell → Type 0
AddsBlocks old new file number cells =
    (other slot writer : ℕ) → writer_in new other slot writer
    ≡ option_or (writer_in old other slot writer) (cond ((file == other) && is_written_by writer cells slot) (Some number) None)

-- the version comes before that number of that file
abbrev pub comes_before : (file number : ℕ) → VersionRow → Bool
comes_before file number row = nat_lt row.file file || ((row.file == file) && nat_lt row.number number)

-- the cells of a file's content with the fresh writers that are known; the first of them is this slot
abbrev pub cells_by : Writers → (file slot : ℕ) → List Cell → List Cell
cells_by known file slot [] = []
cells_by known file slot (cell ∷ cells) =
    record cell { writer = option_map_or (λ number. number) (writer_in known file slot cell.writer) 0 } ∷ cells_by known file (slot + 1) cells

-- the rows in which numbers are looked up are in order
pub record IsInOrder (w : World) : Type 0 where
  pub directories : Rises (λ row. row.id) w.directories
  pub files : Rises (λ row. row.id) w.files
  pub versions : AllLater ArePlaced w.versions
