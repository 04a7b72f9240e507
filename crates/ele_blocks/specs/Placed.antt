-- New slots of a file, beside the names of the file's slots that have a block.
use Rattle.std.specs.Prelude.{◌≡◌, ◌⊎◌, ℕ, ◌+◌, ◌==◌, ◌&&◌, Bool, false, List, [], ◌∷◌, Option, Some, None, slice_get}
use Rattle.std.specs.HashMap.{get}
use Rattle.ele_content.specs.declared.cell.Cell.{Cell}
use Rattle.ele_content.specs.Place.{Place, is_place}
use Rattle.ele_blocks.specs.declared.new_slot.NewSlot.{NewSlot}
use Rattle.ele_blocks.specs.declared.new_slot.SlotBytes.{SlotBytes}
use Rattle.ele_blocks.specs.declared.new_slot.SlotBytes.TheVariants.{Shared, Fresh}
use Rattle.ele_blocks.specs.declared.placed.PlacedBlocks.{PlacedBlocks}
use Rattle.ele_blocks.specs.Distinct.{Named, IsIn}
use Rattle.ele_blocks.specs.Layout.{shown}
use Rattle.ele_blocks.specs.Stock.{Tagged}
use Rattle.ele_blocks.specs.Store.{Store, bytes_at}

-- a block that is shared is that of the place; a new one is for a place that has none
abbrev pub IsPlaced : List Named → Place → SlotBytes → Type 0
IsPlaced names place (Shared id) = IsIn (record { place = place; block = id }) names
IsPlaced names place (Fresh bytes) = (n : Named) → IsIn n names → is_place place n.place ≡ false

-- so is each of the file's new slots, where the first of these has this number
abbrev pub ArePlaced : ℕ → ℕ → List Named → List NewSlot → Type 0
ArePlaced file first names [] = Unit {0}
ArePlaced file first names (x ∷ xs) =
    IsPlaced names (record { file = file; slot = first; writer = x.writer }) x.bytes × ArePlaced file (first + 1) names xs

-- ---- the blocks of a file's places, by slot and writer

abbrev pub is_key : ℕ × ℕ → ℕ × ℕ → Bool
is_key x y = (x.0 == y.0) && (x.1 == y.1)

-- the block of the slot and writer, if there is one
abbrev pub block_in : PlacedBlocks → ℕ → ℕ → Option ℕ
block_in p slot writer = get is_key p.blocks (slot, writer)

-- each place of the file that one of the names has is there, with the block of such a name
pub record Finds (p : PlacedBlocks) (file : ℕ) (names : List Named) : Type 0 where
  pub named : (slot writer block : ℕ) → block_in p slot writer ≡ Some block → IsIn (record { place = record { file = file; slot = slot; writer = writer }; block = block }) names
  pub none : (slot writer : ℕ) → block_in p slot writer ≡ None → (n : Named) → IsIn n names → is_place (record { file = file; slot = slot; writer = writer }) n.place ≡ false

-- the new slot of a cell: it shares the block that is there, or has the cell's bytes
abbrev pub slot_with : Option ℕ → Cell → NewSlot
slot_with None cell = record { writer = cell.writer; bytes = Fresh cell.bytes }
slot_with (Some block) cell = record { writer = cell.writer; bytes = Shared block }

-- the new slots of the cells, where the first of these has this number
abbrev pub slots_with : PlacedBlocks → ℕ → List Cell → List NewSlot
slots_with p first [] = []
slots_with p first (cell ∷ cells) = slot_with (block_in p first cell.writer) cell ∷ slots_with p (first + 1) cells

-- the block has the cell's bytes, if there is a block
abbrev pub HasBytesOf : Store → Option ℕ → Cell → Type 0
HasBytesOf s None cell = Unit {0}
HasBytesOf s (Some block) cell = bytes_at s block ≡ cell.bytes

-- so has the block of each of the cells, where the first of these has this number
abbrev pub HaveBytesOf : Store → PlacedBlocks → ℕ → List Cell → Type 0
HaveBytesOf s p first [] = Unit {0}
HaveBytesOf s p first (cell ∷ cells) = HasBytesOf s (block_in p first cell.writer) cell × HaveBytesOf s p (first + 1) cells

-- the map is of the name's file, and shows the name's block at its slot, with its writer
pub record IsShownBy (s : Store) (n : Named) (t : Tagged) : Type 0 where
  pub file : t.file ≡ n.place.file
  pub cell : slice_get (shown s t.layout) n.place.slot ≡ Some (record { writer = n.place.writer; bytes = bytes_at s n.block })

-- one of the maps does
abbrev pub IsShownIn : Store → Named → List Tagged → Type 0
IsShownIn s n [] = ⊥
IsShownIn s n (t ∷ ts) = IsShownBy s n t ⊎ IsShownIn s n ts
