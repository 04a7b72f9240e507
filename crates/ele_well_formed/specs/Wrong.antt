-- A row that shows that a list is none of a world: by itself, or beside an earlier one.
use Rattle.std.specs.Prelude.{◌≡◌, ℕ, ◌<◌, List, Some, slice_get}

module _ {X : Type 0} where
  -- the row at the place doesn't fit
  pub record IsWrong (Fits : X → Type 0) (rows : List X) (at : ℕ) : Type 0 where
    pub row : X
    pub there : slice_get rows at ≡ Some row
    pub wrong : Fits row → ⊥

  -- the row at the place and one at an earlier place don't stand as they should
  pub record IsMisplaced (Stand : X → X → Type 0) (rows : List X) (at : ℕ) : Type 0 where
    pub place : ℕ
    pub before : place < at
    pub earlier : X
    pub row : X
    pub found : slice_get rows place ≡ Some earlier
    pub there : slice_get rows at ≡ Some row
    pub wrong : Stand earlier row → ⊥
