-- A map that is made slot by slot, of blocks that it shares and of new ones.
use Rattle.std.specs.Prelude.{◌≡◌, ℕ, ◌<◌, ◌≤◌, List, [], ◌∷◌, map, Option}
use Rattle.std.specs.List.{AllZip}
use Rattle.ele_content.specs.declared.cell.Cell.{Cell}
use Rattle.ele_blocks.specs.declared.new_slot.NewSlot.{NewSlot}
use Rattle.ele_blocks.specs.declared.new_slot.SlotBytes.{SlotBytes}
use Rattle.ele_blocks.specs.declared.new_slot.SlotBytes.TheVariants.{Shared, Fresh}
use Rattle.ele_blocks.specs.declared.slot.Slot.{Slot}
use Rattle.ele_blocks.specs.Layout.{Layout, ids_of, shown, slots_of}
use Rattle.ele_blocks.specs.Owes.{Moves}
use Rattle.ele_blocks.specs.Shared.{Counted, owners, times}
use Rattle.ele_blocks.specs.Store.{Store, bytes_at, owners_at}

-- a block that is shared has an owner
abbrev pub HasBlock : List (Option (Counted (List ℕ))) → SlotBytes → Type 0
HasBlock blocks (Shared id) = 0 < owners blocks id
HasBlock blocks (Fresh bytes) = Unit {0}

-- the bytes of the shared block, or those of the new one
abbrev pub bytes_for : Store → SlotBytes → List ℕ
bytes_for s (Shared id) = bytes_at s id
bytes_for s (Fresh bytes) = bytes

-- the cell of a new slot
abbrev pub cell_for : Store → NewSlot → Cell
cell_for s new = record { writer = new.writer; bytes = bytes_for s new.bytes }

-- the block is the one that is shared, or a new one, which had no owner
abbrev pub IsBlockFor : List (Option (Counted (List ℕ))) → SlotBytes → ℕ → Type 0
IsBlockFor blocks (Shared id) block = block ≡ id
IsBlockFor blocks (Fresh bytes) block = owners blocks block ≡ 0

-- the slot has the writer, and the shared block or a new one
abbrev pub IsSlotFor : List (Option (Counted (List ℕ))) → NewSlot → Slot → Type 0
IsSlotFor blocks new slot = (slot.writer ≡ new.writer) × IsBlockFor blocks new.bytes slot.block

-- the map has so many bytes and the cells of the new slots, each with its block; no new block is in two slots; the map is added to the store
pub record IsMade (s t : Store) (count : ℕ) (news : List NewSlot) (now : Layout) : Type 0 where
  pub size : now.size ≡ count
  pub cells : shown t now ≡ map (cell_for s) news
  pub slots : AllZip (IsSlotFor s.blocks) news (slots_of t now)
  pub once : (id : ℕ) → owners_at s id ≡ 0 → times id (ids_of (slots_of t now)) ≤ 1
  pub moves : Moves s t [] (now ∷ [])
