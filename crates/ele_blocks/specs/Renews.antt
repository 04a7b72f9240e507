-- Which slots of a map have new blocks after a change.
use Rattle.std.specs.Prelude.{◌≡◌, ℕ, ◌<◌, ◌≤◌, Bool, true, false, length, IfSome, slice_get}
use Rattle.ele_blocks.specs.Shared.{times}
use Rattle.ele_blocks.specs.Store.{Store, owners_at}
use Rattle.ele_blocks.specs.Layout.{Layout, slots_of, ids_of}

-- the slots that pass the test have new blocks by the writer, which had no owner before; the others have their old writers and blocks; and
-- no new block is in two slots
pub record Renews (s t : Store) (writer : ℕ) (renewed : ℕ → Bool) (was now : Layout) : Type 0 where
  pub fresh : (slot : ℕ) → renewed slot ≡ true → IfSome (slice_get (slots_of t now) slot) (λ cell. (cell.writer ≡ writer) × (owners_at s cell.block ≡ 0))
  pub stays : (slot : ℕ) → renewed slot ≡ false → slot < length (slots_of t now) → slice_get (slots_of t now) slot ≡ slice_get (slots_of s was) slot
  pub once : (id : ℕ) → owners_at s id ≡ 0 → times id (ids_of (slots_of t now)) ≤ 1
