-- Lists as their length and their items.
use Rattle.std.specs.Prelude.{ℕ, List, ◌++◌, length}
use Rattle.std.specs.List.{flat_map}
use Rattle.ele_checkpoint.specs.Number.{number_text}

-- how many items, and then each
abbrev pub list_text : {X : Type 0} → (X → List ℕ) → List X → List ℕ
list_text text items = number_text (length items) ++ flat_map text items
