-- Blocks and leaves for new slots. No public clause cites this module.
use Rattle.std.specs.Prelude.{◌≡◌, ℕ, ◌<◌, ◌≤◌, ◌^◌, List, [], ◌∷◌, map, Option, Some}
use Rattle.std.specs.List.{AllZip}
use Rattle.ele_blocks.specs.declared.new_slot.NewSlot.{NewSlot}
use Rattle.ele_blocks.specs.declared.new_slot.SlotBytes.{SlotBytes}
use Rattle.ele_blocks.specs.declared.new_slot.SlotBytes.TheVariants.{Shared, Fresh}
use Rattle.ele_blocks.specs.declared.slot.Slot.{Slot}
use Rattle.ele_blocks.specs.Hands.{Hands}
use Rattle.ele_blocks.specs.Layout.{cell_of, ids_of}
use Rattle.ele_blocks.specs.Made.{IsBlockFor, IsSlotFor, cell_for}
use Rattle.ele_blocks.specs.Renewed.{parts}
use Rattle.ele_blocks.specs.Shared.{Counted, Trades, owners, times, value_at}
use Rattle.ele_blocks.specs.Store.{Store, leaf_at, owners_at, slots_in}

abbrev pub Blocks : Type 0
Blocks = List (Option (Counted (List ℕ)))

-- a block that is shared has owners, but fewer than so many, and a number of 32 bits
abbrev pub CanTake : ℕ → Blocks → SlotBytes → Type 0
CanTake many blocks (Shared id) = (0 < owners blocks id) × (owners blocks id < many) × (id < 2 ^ 32)
CanTake many blocks (Fresh bytes) = Unit {0}

pub record CanMake (blocks : Blocks) (new : NewSlot) : Type 0 where
  pub writer : new.writer < 2 ^ 32
  pub block : CanTake (2 ^ 62) blocks new.bytes

-- the value of the shared block, or the bytes of the new one
abbrev pub value_for : Blocks → SlotBytes → Option (List ℕ)
value_for blocks (Shared id) = value_at blocks id
value_for blocks (Fresh bytes) = Some bytes

-- the block has an owner more, and these bytes
pub record Takes (old new : Blocks) (bytes : SlotBytes) (block : ℕ) : Type 0 where
  pub trades : Trades old new [] (block ∷ [])
  pub is : IsBlockFor old bytes block
  pub value : value_at new block ≡ value_for old bytes

-- each slot's block has an owner more, and the bytes of the new slot; no new block is in two slots
pub record AreMade (old new : Blocks) (news : List NewSlot) (slots : List Slot) : Type 0 where
  pub trades : Trades old new [] (ids_of slots)
  pub are : AllZip (IsSlotFor old) news slots
  pub values : map (value_at new) (ids_of slots) ≡ map (λ n. value_for old n.bytes) news
  pub once : (id : ℕ) → owners old id ≡ 0 → times id (ids_of slots) ≤ 1

-- new leaves hold the new slots
pub record ArePut (s t : Store) (news : List NewSlot) (now : List ℕ) : Type 0 where
  pub leaves : map (leaf_at t) now ≡ parts (slots_in t now)
  pub cells : map (cell_of t) (slots_in t now) ≡ map (cell_for s) news
  pub slots : AllZip (IsSlotFor s.blocks) news (slots_in t now)
  pub once : (id : ℕ) → owners_at s id ≡ 0 → times id (ids_of (slots_in t now)) ≤ 1
  pub hands : Hands s t (λ leaf. 0) (λ leaf. times leaf now)
