-- Rows at their birth and their death.
use Rattle.std.specs.Prelude.{◌≡◌, ◌≤◌}
use Rattle.ele_model.specs.declared.rows.NameRow.{NameRow}
pub use Rattle.ele_model.specs.NameRows.{born_row, dies}
use Rattle.ele_model.specs.WellFormed.{AreApart}

-- of two rows of one directory and name the earlier is dead, and was born, by the birth of the later
pub record Follows (earlier later : NameRow) : Type 0 where
  pub apart : AreApart earlier later
  pub born : earlier.directory ≡ later.directory → earlier.name ≡ later.name → earlier.birth ≤ later.birth
