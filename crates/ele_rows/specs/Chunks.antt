-- A list in chunks. Public clauses see the chunks only through `Spaced`.
use Rattle.std.specs.Prelude.{◌≡◌, ℕ, ◌<◌, ◌≤◌, ◌+◌, ◌-◌, ◌^◌, min, Bool, true, false, suc, List, [], ◌++◌, length, take, drop, slice_get, find, Option, Some, Vec, vec_len, vec_capacity}
use Rattle.std.specs.declared.alloc.Global.{Global}
use Rattle.std.specs.Option.{option_map_or, ForSome}
use Rattle.std.specs.List.{flat_map, AllByRecursion}
use Rattle.ele_lists.specs.Lists.{remove_first}
use Rattle.ele_lists.specs.Ends.{last_of}
use Rattle.ele_rows.specs.Piece.{Piece}

-- the rows, and how many more fit into the reserved memory
pub record Spaced (X : Type 0) : Type 0 where
  pub rows : List X
  pub spare : ℕ

-- no element that passes is after one that doesn't
abbrev pub Sinks : {X : Type 0} → (X → Bool) → X → X → Type 0
Sinks p x y = p y ≡ true → p x ≡ true

module _ {X : Type 0} where
  -- the rows of all chunks
  abbrev pub flat : List (Piece X) → List X
  flat chunks = flat_map (λ chunk. chunk.items) chunks

  -- each chunk has rows
  abbrev pub AreFilled : List (Piece X) → Type 0
  AreFilled chunks = AllByRecursion (λ chunk. 0 < length chunk.items) chunks

  -- no chunk has a capacity of more than 64
  abbrev pub AreShort : List (Piece X) → Type 0
  AreShort chunks = AllByRecursion (λ chunk. chunk.capacity ≤ 64) chunks

  -- how many more rows fit into a chunk
  abbrev pub room_of : Piece X → ℕ
  room_of chunk = chunk.capacity - length chunk.items

  -- how many more rows fit into the last chunk
  abbrev pub last_room : List (Piece X) → ℕ
  last_room chunks = option_map_or room_of (last_of chunks) 0

  -- the rows of one chunk, or none past the last
  abbrev pub rows_at : List (Piece X) → ℕ → List X
  rows_at chunks i = option_map_or (λ chunk. chunk.items) (slice_get chunks i) []

  -- the rows before the j-th of the i-th chunk
  abbrev pub before_place : List (Piece X) → ℕ → ℕ → List X
  before_place chunks i j = flat (take i chunks) ++ take j (rows_at chunks i)

  -- the rows from that place on
  abbrev pub behind_place : List (Piece X) → ℕ → ℕ → List X
  behind_place chunks i j = drop j (rows_at chunks i) ++ flat (drop (suc i) chunks)

  -- the last of the chunk's rows passes
  abbrev pub ends_before : (X → Bool) → List X → Bool
  ends_before p rows = option_map_or p (last_of rows) false

  -- the last row is this one, and it passes
  pub record IsLastBehind (p : X → Bool) (chunks : List (Piece X)) (row : X) : Type 0 where
    pub last : last_of (flat chunks) ≡ Some row
    pub passes : p row ≡ true

  -- the rows that pass are before the place, and the others after it
  pub record IsSeam (p : X → Bool) (chunks : List (Piece X)) (i j : ℕ) : Type 0 where
    pub chunk : i ≤ length chunks
    pub place : j ≤ length (rows_at chunks i)
    pub within : i < length chunks → j < length (rows_at chunks i)
    pub passes : AllByRecursion (λ x. p x ≡ true) (before_place chunks i j)
    pub fails : AllByRecursion (λ x. p x ≡ false) (behind_place chunks i j)

  -- the first row that passes is at the place, after and before the others
  pub record IsPlaceOf (p : X → Bool) (chunks : List (Piece X)) (i j : ℕ) : Type 0 where
    pub within : j < length (rows_at chunks i)
    pub found : find p (flat chunks) ≡ slice_get (rows_at chunks i) j
    pub rest : remove_first p (flat chunks) ≡ before_place chunks i j ++ behind_place chunks i (suc j)
    pub shorter : length (remove_first p (flat chunks)) + 1 ≡ length (flat chunks)

  -- there are as many chunks, and the last one has the same spare capacity or more
  pub record KeepsRoom (old new : Vec (Piece X) Global) : Type 0 where
    pub chunks : vec_len new ≡ vec_len old
    pub room : last_room old.items ≤ last_room new.items

  -- a chunk without rows, with a capacity of 1 to 64
  pub record IsFresh (chunk : Piece X) : Type 0 where
    pub empty : chunk.items ≡ []
    pub room : 1 ≤ room_of chunk
    pub short : chunk.capacity ≤ 64

  -- how many more rows fit: into the last chunk, and into the next one if the list of chunks has a place for it
  abbrev pub spaced_of : Vec (Piece X) Global → Option (Piece X) → ℕ → Spaced X
  spaced_of chunks fresh count = record {
    rows = flat chunks.items;
    spare = min (2 ^ 64 - 1 - count) (last_room chunks.items + min (vec_capacity chunks - vec_len chunks) (option_map_or room_of fresh 0));
  }

  -- each chunk has rows, the spare one has none and a capacity, no chunk is long, and the rows are counted
  pub record IsSpaced (chunks : List (Piece X)) (beside : Option (Piece X)) (counted : ℕ) : Type 0 where
    pub filled : AreFilled chunks
    pub short : AreShort chunks
    pub fresh : ForSome beside IsFresh
    pub count : counted ≡ length (flat chunks)
