-- A store: blocks of bytes, and leaves of slots that name blocks.
use Rattle.std.specs.Prelude.{ℕ, List, [], Option, unwrap_or}
use Rattle.std.specs.List.{flat_map}
use Rattle.ele_blocks.specs.Shared.{Counted}
use Rattle.ele_blocks.specs.declared.slot.Slot.{Slot}
use Rattle.ele_blocks.specs.Shared.{place_at, value_at, owners}

pub record Store : Type 0 where
  pub blocks : List (Option (Counted (List ℕ)))
  pub leaves : List (Option (Counted (List Slot)))

-- the empty store
abbrev pub no_blocks : Store
no_blocks = record { blocks = []; leaves = [] }

-- the block under the id
abbrev pub block_at : Store → ℕ → Option (Counted (List ℕ))
block_at s id = place_at s.blocks id

-- how many owners the block under the id has
abbrev pub owners_at : Store → ℕ → ℕ
owners_at s id = owners s.blocks id

-- the bytes of the block under the id
abbrev pub bytes_at : Store → ℕ → List ℕ
bytes_at s id = unwrap_or (value_at s.blocks id) []

-- the slots of the leaf under the number
abbrev pub leaf_at : Store → ℕ → List Slot
leaf_at s leaf = unwrap_or (value_at s.leaves leaf) []

-- the slots of the leaves, one leaf after another
abbrev pub slots_in : Store → List ℕ → List Slot
slots_in s leaves = flat_map (leaf_at s) leaves
