-- A list of leaves as contracts see it. No public clause cites this module.
use Rattle.std.specs.Prelude.{ℕ, List}

-- the length of the content in bytes, the numbers of its leaves, and for how many there is memory
pub record Numbers : Type 0 where
  pub size : ℕ
  pub items : List ℕ
  pub room : ℕ
