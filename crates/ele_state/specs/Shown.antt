-- A state as contracts see it.
use Rattle.std.specs.Prelude.{ℕ}
use Rattle.ele_model.specs.World.{World}

-- its world, and how many version rows the last clean read
pub record Shown : Type 0 where
  pub world : World
  pub rows_read : ℕ
