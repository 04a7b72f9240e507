-- Rows by a numeric key.
use Rattle.std.specs.Prelude.{ℕ, ◌<◌, ◌==◌, nat_lt, Bool, List}
use Rattle.ele_lists.specs.Lists.{AllLater}

-- the keys rise along the list
abbrev pub Rises : {X : Type 0} → (X → ℕ) → List X → Type 0
Rises key xs = AllLater (λ x y. key x < key y) xs

-- the row has that key
abbrev pub stands_by : {X : Type 0} → (X → ℕ) → ℕ → X → Bool
stands_by key this row = key row == this

-- the row has a greater key
abbrev pub is_behind : {X : Type 0} → (X → ℕ) → ℕ → X → Bool
is_behind key this row = nat_lt this (key row)
