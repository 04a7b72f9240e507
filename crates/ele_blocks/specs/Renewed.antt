-- New leaves and blocks in place of others. No public clause cites this module.
use Rattle.std.specs.Prelude.{◌≡◌, ℕ, ◌+◌, ◌<◌, ◌≤◌, List, length, map, take, Option, Some}
use Rattle.std.specs.Simd.{first_chunks}
use Rattle.ele_blocks.specs.Shared.{Counted}
use Rattle.ele_blocks.specs.declared.slot.Slot.{Slot}
use Rattle.ele_blocks.specs.Hands.{Hands}
use Rattle.ele_blocks.specs.LaidOver.{laid_over}
use Rattle.ele_blocks.specs.Layout.{Layout, ids_of, slots_of, shown, cell_of, slot_by, cell_by, is_between}
use Rattle.ele_blocks.specs.LivesIn.{leaf_count}
use Rattle.ele_blocks.specs.Pieces.{AreSized}
use Rattle.ele_blocks.specs.Renews.{Renews}
use Rattle.ele_blocks.specs.Shared.{times, owners, value_at}
use Rattle.ele_blocks.specs.Store.{Store, owners_at, leaf_at, slots_in}

-- the slots in leaves of 16; the last may have fewer
abbrev pub parts : List Slot → List (List Slot)
parts slots = first_chunks 16 (leaf_count (length slots)) slots

-- new blocks, which had no owner, hold the staged bytes, and slots that name them replace part of the window; each slot has one owner more
-- at its block, and old blocks keep their bytes
pub record IsLaid (old new : List (Option (Counted (List ℕ)))) (window : List Slot) (first writer : ℕ) (staged : List (List ℕ)) (slots : List Slot) : Type 0 where
  pub blocks : List ℕ
  pub fresh : (id : ℕ) → 0 < owners old id → times id blocks ≡ 0
  pub once : (id : ℕ) → times id blocks ≤ 1
  pub values : map (value_at new) blocks ≡ map Some staged
  pub are : slots ≡ laid_over first (map (slot_by writer) blocks) window
  pub owed : (id : ℕ) → owners new id ≡ owners old id + times id (ids_of slots)
  pub kept : (id : ℕ) → 0 < owners old id → value_at new id ≡ value_at old id

-- the new leaves hold these slots, with slots of new blocks in them, which had no owner
pub record IsRenewed (s t : Store) (was : List ℕ) (window : List Slot) (first writer : ℕ) (staged : List (List ℕ)) (now : List ℕ) : Type 0 where
  pub blocks : List ℕ
  pub fresh : (id : ℕ) → 0 < owners_at s id → times id blocks ≡ 0
  pub once : (id : ℕ) → times id blocks ≤ 1
  pub count : length blocks ≡ length staged
  pub leaves : map (leaf_at t) now ≡ parts (laid_over first (map (slot_by writer) blocks) window)
  pub cells : map (cell_of t) (slots_in t now) ≡ laid_over first (map (cell_by writer) staged) (map (cell_of s) window)
  pub hands : Hands s t (λ leaf. times leaf was) (λ leaf. times leaf now)

-- the map's first slots are kept, and new ones follow
pub record IsReplaced (s t : Store) (writer first kept : ℕ) (staged : List (List ℕ)) (was now : Layout) : Type 0 where
  pub cells : shown t now ≡ laid_over first (map (cell_by writer) staged) (take kept (shown s was))
  pub filled : AreSized 16 (leaf_at t) (length (slots_of t now)) now.leaves
  pub renews : Renews s t writer (is_between first (first + length staged)) was now
  pub hands : Hands s t (λ leaf. times leaf was.leaves) (λ leaf. times leaf now.leaves)
