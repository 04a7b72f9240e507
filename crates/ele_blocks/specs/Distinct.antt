-- How many blocks the maps of a store name.
use Rattle.std.specs.Prelude.{◌≡◌, ◌⊎◌, ℕ, ◌+◌, ◌==◌, List, [], ◌∷◌}
use Rattle.std.specs.List.{flat_map}
use Rattle.ele_blocks.specs.declared.slot.Slot.{Slot}
use Rattle.ele_blocks.specs.Store.{Store}
use Rattle.ele_blocks.specs.Layout.{Layout, slots_of, ids_of}
use Rattle.ele_content.specs.Place.{Place, is_place}

-- the blocks that the slots of the maps name, each as often as they name it
abbrev pub blocks_of : Store → List Layout → List ℕ
blocks_of s ms = flat_map (λ m. ids_of (slots_of s m)) ms

-- a place, and the block that a map names there
pub record Named : Type 0 where
  pub place : Place
  pub block : ℕ

-- the name is in the list
abbrev pub IsIn : Named → List Named → Type 0
IsIn n [] = ⊥
IsIn n (x ∷ xs) = (n ≡ x) ⊎ IsIn n xs

-- the same place is the same block, and the same block is the same place
abbrev pub AreOneToOne : List Named → Type 0
AreOneToOne ns = (m n : Named) → IsIn m ns → IsIn n ns → is_place m.place n.place ≡ (m.block == n.block)

-- the names of a file's slots, where the first of these slots has this number
abbrev pub names_from : ℕ → ℕ → List Slot → List Named
names_from file first [] = []
names_from file first (x ∷ xs) = record { place = record { file = file; slot = first; writer = x.writer }; block = x.block } ∷ names_from file (first + 1) xs

-- the names of a map of the file
abbrev pub names_of : Store → ℕ → Layout → List Named
names_of s file m = names_from file 0 (slots_of s m)
