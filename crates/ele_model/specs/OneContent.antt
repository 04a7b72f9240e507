-- A place has one content. What one version wrote into a slot of a file is the same in the draft and in each version that has it. So it may
-- be one block.
use Rattle.std.specs.Prelude.{◌≡◌, ℕ, List, Some, slice_get}
use Rattle.ele_content.specs.declared.cell.Cell.{Cell}
use Rattle.ele_model.specs.declared.rows.Reads.{Reads}
use Rattle.ele_model.specs.declared.rows.Reads.TheVariants.{Draft, Version}
use Rattle.ele_model.specs.Step.{cells_read}
use Rattle.ele_model.specs.World.{World}

abbrev pub file_read : Reads → ℕ
file_read (Draft file) = file
file_read (Version file number) = file

-- if one version wrote a slot of both, the slot has the same bytes in both
abbrev pub Agree : List Cell → List Cell → Type 0
Agree cells others =
    (slot : ℕ) (cell other : Cell) → slice_get cells slot ≡ Some cell
    → slice_get others slot ≡ Some other → cell.writer ≡ other.writer → cell.bytes ≡ other.bytes

-- any two contents of one file agree, of held versions or of its draft; one that isn't there has no cells
abbrev pub HasOneContent : World → Type 0
HasOneContent w =
    (one other : Reads) → file_read one ≡ file_read other
    → Agree (cells_read w one) (cells_read w other)
