-- The maps of many files over one store: the owners that the store counts, and what each call changes. Nothing here looks into a map.
use Rattle.std.specs.Prelude.{◌≡◌, ℕ, ◌+◌, ◌≤◌, ◌^◌, ◌<◌, Bool, nat_lt, nat_eq, List, [], ◌∷◌, length, map, Some, slice_get, if◌then◌else◌}
use Rattle.std.specs.List.{flat_map, list_all, sum_by, AllByRecursion}
use Rattle.ele_blocks.specs.Distinct.{Named, names_of, blocks_of, AreOneToOne}
use Rattle.ele_blocks.specs.Layout.{Layout, slots_of, shown}
use Rattle.ele_blocks.specs.LivesIn.{LivesIn}
use Rattle.ele_blocks.specs.Owes.{tally, Owes, Moves, IsUncrowded}
use Rattle.ele_blocks.specs.Renews.{Renews}
use Rattle.ele_blocks.specs.Store.{Store, no_blocks, owners_at}
use Rattle.ele_blocks.specs.declared.slot.Slot.{Slot}
use Rattle.ele_content.specs.Content.{content_of, longest_content, slot_count}
use Rattle.ele_content.specs.Place.{different, is_place}

-- a map, its file, and a number greater than that of each writer of its slots
pub record Tagged : Type 0 where
  pub file : ℕ
  pub below : ℕ
  pub layout : Layout

-- the map of an empty content
abbrev pub empty_layout : Layout
empty_layout = record { size = 0; leaves = [] }

-- the same maps of the same files, in any order: they agree in every sum
pub record SameStock (ts us : List Tagged) : Type 0 where
  pub sums : (f : Tagged → ℕ) → sum_by f ts ≡ sum_by f us

abbrev pub layouts_of : List Tagged → List Layout
layouts_of ts = map (λ t. t.layout) ts

abbrev pub names_in : Store → List Tagged → List Named
names_in s ts = flat_map (λ t. names_of s t.file t.layout) ts

abbrev pub is_below : Store → Tagged → Bool
is_below s t = list_all (λ slot. nat_lt slot.writer t.below) (slots_of s t.layout)

-- exactly these maps live in the store, a slot of a file by one writer is one block, and each writer is below its map's number
pub record IsStocked (s : Store) (ts : List Tagged) : Type 0 where
  pub owed : Owes s (layouts_of ts)
  pub one_to_one : AreOneToOne (names_in s ts)
  pub written : tally (λ t. if is_below s t then 0 else 1) ts ≡ 0

-- the map shows the same bytes through both stores
pub record ShowsSame (s t : Store) (m : Tagged) : Type 0 where
  pub same : shown t m.layout ≡ shown s m.layout

-- the store has exactly these maps, and those that stayed show the same bytes
pub record Stays (s t : Store) (stayed now : List Tagged) : Type 0 where
  pub stocked : IsStocked t now
  pub shows : AllByRecursion (ShowsSame s t) stayed

-- the other maps of the file are of lesser writers
pub record IsEarlier (file writer : ℕ) (t : Tagged) : Type 0 where
  pub earlier : t.file ≡ file → t.below ≤ writer

pub record StockLaws : Type 0 where
  pub none : IsStocked no_blocks []
  -- in another order
  pub same : (s : Store) (ts us : List Tagged) → SameStock ts us → IsStocked s ts → IsStocked s us
  -- the map of an empty content is added and removed without a change
  pub empty : (s : Store) (file below : ℕ) (ts : List Tagged) → IsStocked s ts → IsStocked s (record { file = file; below = below; layout = empty_layout } ∷ ts)
  pub no_empty : (s : Store) (file below : ℕ) (ts : List Tagged) → IsStocked s (record { file = file; below = below; layout = empty_layout } ∷ ts) → IsStocked s ts
  pub empty_lives : (s : Store) → LivesIn s empty_layout
  -- each map lives in the store
  pub lives : (s : Store) (t : Tagged) (ts : List Tagged) → IsStocked s (t ∷ ts) → LivesIn s t.layout
  pub long : (s : Store) (m : Layout) → LivesIn s m → length (content_of (shown s m)) ≡ m.size
  pub short : (s : Store) (m : Layout) → LivesIn s m → m.size ≤ longest_content
  pub owned : (s : Store) (m : Layout) (k : ℕ) (slot : Slot) → LivesIn s m → slice_get (slots_of s m) k ≡ Some slot → 0 < owners_at s slot.block
  pub slots : (s : Store) (m : Layout) → LivesIn s m → length (slots_of s m) ≡ slot_count m.size
  pub few : (s : Store) (ts : List Tagged) → IsStocked s ts → length ts ≤ 2 ^ 50 → IsUncrowded s
  -- there are as many blocks as places
  pub blocks : (s : Store) (ts : List Tagged) → IsStocked s ts → different nat_eq (blocks_of s (layouts_of ts)) ≡ different is_place (map (λ n. n.place) (names_in s ts))
  -- a map is given up
  pub gone : (s t : Store) (ts : List Tagged) (was : Tagged) (rest : List Tagged) → IsStocked s ts → SameStock ts (was ∷ rest) → Moves s t (was.layout ∷ []) [] → Stays s t rest rest
  -- a copy of a map is added
  pub copied : (s t : Store) (ts : List Tagged) (was : Tagged) (rest : List Tagged) (below : ℕ) (us : List Tagged) → IsStocked s ts → SameStock ts (was ∷ rest) → was.below ≤ below → Moves s t [] (was.layout ∷ []) → SameStock us (record was { below = below } ∷ ts) → Stays s t ts us
  -- a map is changed, by a writer that is in no other map of the file
  pub rewritten : (s t : Store) (ts : List Tagged) (was : Tagged) (rest : List Tagged) (writer : ℕ) (renewed : ℕ → Bool) (now : Layout) (us : List Tagged) → IsStocked s ts → SameStock ts (was ∷ rest) → was.below ≡ writer + 1 → AllByRecursion (IsEarlier was.file writer) rest → Moves s t (was.layout ∷ []) (now ∷ []) → Renews s t writer renewed was.layout now → SameStock us (record was { layout = now } ∷ rest) → Stays s t rest us
