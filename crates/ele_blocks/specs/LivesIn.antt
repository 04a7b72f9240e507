-- When a map lives in a store.
use Rattle.std.specs.Prelude.{◌≡◌, ℕ, ◌+◌, ◌-◌, ◌/◌, ◌<◌, ◌≤◌, ◌==◌, ◌&&◌, min, Bool, true, nat_le, nat_lt, List, [], ◌∷◌, length, Option, unwrap_or}
use Rattle.ele_content.specs.Content.{longest_content, slot_count}
use Rattle.ele_blocks.specs.Shared.{Counted}
use Rattle.ele_blocks.specs.declared.slot.Slot.{Slot}
use Rattle.ele_blocks.specs.Store.{Store, owners_at, leaf_at}
use Rattle.ele_blocks.specs.Shared.{Covers, times, value_of}
use Rattle.ele_blocks.specs.Layout.{Layout, slots_of, ids_of, shown}

-- how many leaves hold so many slots
abbrev pub leaf_count : ℕ → ℕ
leaf_count slots = (slots + 15) / 16

-- f gives items for each: so many in all, c for each, and 1 to c for the last one
abbrev pub fills : {A X : Type 0} → ℕ → (A → List X) → ℕ → List A → Bool
fills c f n [] = n == 0
fills c f n (x ∷ xs) = (length (f x) == min n c) && (nat_lt 0 n && fills c f (n - c) xs)

-- each slot of the map has its full number of bytes, each leaf its full number of slots, and the content isn't too long
abbrev pub is_whole : Store → Layout → Bool
is_whole s m =
    nat_le m.size longest_content
    && (fills 512 (λ cell. cell.bytes) m.size (shown s m) && fills 16 (leaf_at s) (slot_count m.size) m.leaves)

-- how many slots of the store's leaves name the block
abbrev pub backing : List (Option (Counted (List Slot))) → ℕ → ℕ
backing [] id = 0
backing (place ∷ places) id = times id (ids_of (unwrap_or (value_of place) [])) + backing places id

-- each block that the slots name has an owner for each slot of a leaf that names it
abbrev pub AreBacked : Store → List Slot → Type 0
AreBacked s slots = (id : ℕ) → 0 < times id (ids_of slots) → backing s.leaves id ≤ owners_at s id

-- the map's leaves are in the store, each with its slots, and count the map among their owners; their blocks are there, each with the bytes
-- of its slot, and count the leaves
pub record LivesIn (s : Store) (m : Layout) : Type 0 where
  pub owned : Covers s.leaves m.leaves
  pub backed : AreBacked s (slots_of s m)
  pub whole : is_whole s m ≡ true
