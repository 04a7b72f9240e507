-- The values under the numbers of a store, and how they change their owners.
use Rattle.std.specs.Prelude.{◌≡◌, ◌≢◌, ℕ, ◌+◌, ◌-◌, ◌<◌, ◌≤◌, ◌==◌, nat_lt, List, [], ◌∷◌, Option, Some, None, IfSome, slice_index_or, if◌then◌else◌}

-- a value, and how many owners it has
pub record Counted (X : Type 0) : Type 0 where
  pub value : X
  pub owners : ℕ

-- how often the number is in the list
abbrev pub times : ℕ → List ℕ → ℕ
times id [] = 0
times id (x ∷ xs) = (if x == id then 1 else 0) + times id xs

module _ {X : Type 0} where
  -- the value under the number, if there is one
  abbrev pub place_at : List (Option (Counted X)) → ℕ → Option (Counted X)
  place_at s id = slice_index_or s id None

  abbrev pub owners_of : Option (Counted X) → ℕ
  owners_of None = 0
  owners_of (Some place) = place.owners

  abbrev pub value_of : Option (Counted X) → Option X
  value_of None = None
  value_of (Some place) = Some place.value

  -- how many owners the value under the number has
  abbrev pub owners : List (Option (Counted X)) → ℕ → ℕ
  owners s id = owners_of (place_at s id)

  abbrev pub value_at : List (Option (Counted X)) → ℕ → Option X
  value_at s id = value_of (place_at s id)

  -- the place with one owner more
  abbrev pub shared : Option (Counted X) → Option (Counted X)
  shared None = None
  shared (Some place) = Some (record place { owners = place.owners + 1 })

  -- the place with one owner fewer, or empty after the last
  abbrev pub released : Option (Counted X) → Option (Counted X)
  released None = None
  released (Some place) = if nat_lt 1 place.owners then Some (record place { owners = place.owners - 1 }) else None

  -- the value that is removed with its last owner
  abbrev pub leaving : Option (Counted X) → Option X
  leaving None = None
  leaving (Some place) = if nat_lt 1 place.owners then None else Some place.value

  -- the new store has this under the number, and all else as before
  pub record Sets (old new : List (Option (Counted X))) (id : ℕ) (place : Option (Counted X)) : Type 0 where
    pub changed : place_at new id ≡ place
    pub others : (other : ℕ) → other ≢ id → place_at new other ≡ place_at old other

  -- the owners that the first list names are removed and those that the second names are added; a value that has another owner beside the
  -- first stays
  pub record Trades (old new : List (Option (Counted X))) (was now : List ℕ) : Type 0 where
    pub owed : (id : ℕ) → owners new id + times id was ≡ owners old id + times id now
    pub kept : (id : ℕ) → times id was < owners old id → value_at new id ≡ value_at old id

  -- each of these numbers was unused before, is in the list once, and has one owner now
  pub record Adds (old new : List (Option (Counted X))) (ids : List ℕ) : Type 0 where
    pub trades : Trades old new [] ids
    pub fresh : (id : ℕ) → 0 < owners old id → times id ids ≡ 0
    pub once : (id : ℕ) → times id ids ≤ 1

  -- each has at least as many owners as it is in the list
  pub record Covers (s : List (Option (Counted X))) (ids : List ℕ) : Type 0 where
    pub owned : (id : ℕ) → times id ids ≤ owners s id

  -- every value has an owner
  abbrev pub Owned : List (Option (Counted X)) → Type 0
  Owned s = (id : ℕ) → IfSome (place_at s id) (λ place. 0 < place.owners)
