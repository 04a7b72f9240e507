-- The laws of maps that are made slot by slot, each with the block that its place has.
use Rattle.std.specs.Prelude.{◌≡◌, ◌≢◌, ℕ, ◌<◌, List, [], ◌∷◌, map}
use Rattle.std.specs.List.{AllByRecursion}
use Rattle.ele_content.specs.declared.cell.Cell.{Cell}
use Rattle.ele_blocks.specs.declared.new_slot.NewSlot.{NewSlot}
use Rattle.ele_blocks.specs.declared.placed.PlacedBlocks.{PlacedBlocks}
use Rattle.ele_blocks.specs.Distinct.{Named, IsIn}
use Rattle.ele_blocks.specs.Layout.{Layout}
use Rattle.ele_blocks.specs.Made.{HasBlock, IsMade, cell_for}
use Rattle.ele_blocks.specs.Placed.{ArePlaced, Finds, HaveBytesOf, IsShownIn, slots_with}
use Rattle.ele_blocks.specs.Stock.{IsStocked, SameStock, Stays, Tagged, names_in}
use Rattle.ele_blocks.specs.Store.{Store}

pub record PlaceLaws : Type 0 where
  -- the new slots of cells have the blocks of their places, and the writers and the bytes of the cells
  pub found : (p : PlacedBlocks) (file first : ℕ) (names : List Named) (cells : List Cell) → Finds p file names → ArePlaced file first names (slots_with p first cells)
  pub writers : (p : PlacedBlocks) (below first : ℕ) (cells : List Cell) → AllByRecursion (λ cell. cell.writer < below) cells → AllByRecursion (λ new. new.writer < below) (slots_with p first cells)
  pub cells : (s : Store) (p : PlacedBlocks) (first : ℕ) (cells : List Cell) → HaveBytesOf s p first cells → map (cell_for s) (slots_with p first cells) ≡ cells
  -- blocks are found among the maps in another order, and beside maps of other files
  pub ordered : (s : Store) (ts us : List Tagged) (p : PlacedBlocks) (file : ℕ) → SameStock ts us → Finds p file (names_in s ts) → Finds p file (names_in s us)
  pub others : (s : Store) (ts : List Tagged) (p : PlacedBlocks) (file : ℕ) → AllByRecursion (λ t. t.file ≢ file) ts → Finds p file [] → Finds p file (names_in s ts)
  -- each name is shown by a map
  pub shown : (s : Store) (ts : List Tagged) (n : Named) → IsIn n (names_in s ts) → IsShownIn s n ts
  -- the blocks that places have are there
  pub there : (s : Store) (ts : List Tagged) (file first : ℕ) (news : List NewSlot) → IsStocked s ts → ArePlaced file first (names_in s ts) news → AllByRecursion (λ new. HasBlock s.blocks new.bytes) news
  -- a map of new slots is added, and the others keep their names
  pub names : (s t : Store) (ts : List Tagged) (count : ℕ) (news : List NewSlot) (now : Layout) → IsStocked s ts → IsMade s t count news now → names_in t ts ≡ names_in s ts
  pub made : (s t : Store) (ts : List Tagged) (file below count : ℕ) (news : List NewSlot) (now : Layout) (us : List Tagged) → IsStocked s ts → IsMade s t count news now → ArePlaced file 0 (names_in s ts) news → AllByRecursion (λ new. new.writer < below) news → SameStock us (record { file = file; below = below; layout = now } ∷ ts) → Stays s t ts us
