-- A row by its parts.
use Rattle.std.specs.Prelude.{◌≡◌, ℕ, ◌==◌, false, List}
use Rattle.ele_lists.specs.Lists.{AllLater}
use Rattle.ele_model.specs.declared.rows.GroupRow.{GroupRow}
use Rattle.ele_model.specs.declared.rows.MarkRow.{MarkRow}

-- the group of that name, with those files and those marks
abbrev pub row_of : List ℕ → List ℕ → List MarkRow → GroupRow
row_of name members marks = record { name = name; members = members; marks = marks }

-- the group has each of its files once, and at most one mark at a moment
pub record HasOnce (row : GroupRow) : Type 0 where
  pub members : AllLater (λ earlier later. (earlier == later) ≡ false) row.members
  pub marks : AllLater (λ earlier later. (earlier.at == later.at) ≡ false) row.marks
