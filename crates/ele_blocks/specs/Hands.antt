-- How leaves change their owners, and blocks with them.
use Rattle.std.specs.Prelude.{◌≡◌, ℕ, ◌+◌, ◌<◌, List, map}
use Rattle.ele_blocks.specs.declared.slot.Slot.{Slot}
use Rattle.ele_blocks.specs.LivesIn.{backing}
use Rattle.ele_blocks.specs.Layout.{cell_of, ids_of}
use Rattle.ele_blocks.specs.Shared.{owners, times}
use Rattle.ele_blocks.specs.Store.{Store, owners_at, leaf_at}

-- each block that the slots name is in the store
abbrev pub AreThere : Store → List Slot → Type 0
AreThere s slots = (id : ℕ) → 0 < times id (ids_of slots) → 0 < owners_at s id

-- the slots show the same bytes, and their blocks are in the store
pub record KeepsSlots (s t : Store) (slots : List Slot) : Type 0 where
  pub cells : map (cell_of t) slots ≡ map (cell_of s) slots
  pub there : AreThere t slots

-- each leaf has lost so many owners and got so many; blocks have owners more or fewer by the leaves that name them; and a leaf with another
-- owner keeps its slots and their bytes
pub record Hands (s t : Store) (was now : ℕ → ℕ) : Type 0 where
  pub leaves : (leaf : ℕ) → owners t.leaves leaf + was leaf ≡ owners s.leaves leaf + now leaf
  pub blocks : (id : ℕ) → owners_at t id + backing s.leaves id ≡ owners_at s id + backing t.leaves id
  pub same : (leaf : ℕ) → was leaf < owners s.leaves leaf → leaf_at t leaf ≡ leaf_at s leaf
  pub shows : (leaf : ℕ) → was leaf < owners s.leaves leaf → AreThere s (leaf_at s leaf) → KeepsSlots s t (leaf_at s leaf)
