-- A block map as contracts see it, and its cells through the store of its leaves and blocks.
use Rattle.std.specs.Prelude.{ℕ, Bool, ◌&&◌, nat_le, nat_lt, List, map}
use Rattle.ele_blocks.specs.declared.slot.Slot.{Slot}
use Rattle.ele_content.specs.declared.cell.Cell.{Cell}
use Rattle.ele_blocks.specs.Store.{Store, bytes_at, slots_in}

-- how many bytes the content has, and the leaves of its slots
pub record Layout : Type 0 where
  pub size : ℕ
  pub leaves : List ℕ

-- the slots of the map: for each the writer and the block
abbrev pub slots_of : Store → Layout → List Slot
slots_of s m = slots_in s m.leaves

-- the blocks that the slots name
abbrev pub ids_of : List Slot → List ℕ
ids_of slots = map (λ slot. slot.block) slots

abbrev pub cell_of : Store → Slot → Cell
cell_of s slot = record { writer = slot.writer; bytes = bytes_at s slot.block }

-- the slot of a new block, and the cell of new bytes, by the writer
abbrev pub slot_by : ℕ → ℕ → Slot
slot_by writer id = record { writer = writer; block = id }

abbrev pub cell_by : ℕ → List ℕ → Cell
cell_by writer bytes = record { writer = writer; bytes = bytes }

-- the slot is one from the first until before the last
abbrev pub is_between : ℕ → ℕ → ℕ → Bool
is_between first past slot = nat_le first slot && nat_lt slot past

-- the map's cells, with the bytes that the store has for them
abbrev pub shown : Store → Layout → List Cell
shown s m = map (cell_of s) (slots_of s m)
