-- Relations between the elements of a list.
use Rattle.std.specs.Prelude.{ℕ, ◌<◌, List}
pub use Rattle.ele_lists.specs.Lists.{AllLater}

-- the keys rise along the list
abbrev pub Rises : {X : Type 0} → (X → ℕ) → List X → Type 0
Rises key xs = AllLater (λ x y. key x < key y) xs
