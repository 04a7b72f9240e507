-- The invariant of the fields of `Groups`. No public clause cites this module.
use Rattle.std.specs.Prelude.{◌≡◌, ℕ, Bool, false, List, Option}
use Rattle.std.specs.List.{AllByRecursion, IsDistinct}
use Rattle.std.specs.Map.{keys_of, lookup}
use Rattle.std.specs.Option.{option_map_or}
use Rattle.std.specs.Str.{bytes_eq}
use Rattle.ele_lists.specs.Lists.{update_first}
use Rattle.ele_model.specs.declared.rows.GroupRow.{GroupRow}
use Rattle.ele_model.specs.GroupRows.{is_group, is_member}
use Rattle.ele_groups.specs.declared.memberships.Memberships.{Memberships}
use Rattle.ele_groups.specs.Members.{has}

-- the row under the name
abbrev pub row_at : List (List ℕ × GroupRow) → List ℕ → Option GroupRow
row_at es name = lookup (bytes_eq name) es

-- the rows with f applied to that row
abbrev pub changed_at : List ℕ → (GroupRow → GroupRow) → List (List ℕ × GroupRow) → List (List ℕ × GroupRow)
changed_at name f es = update_first (λ e. bytes_eq name e.0) (λ e. (e.0, f e.1)) es

-- the row, if there is one, has the file
abbrev pub has_file : ℕ → Option GroupRow → Bool
has_file file row = option_map_or (is_member file) row false

-- the row is under its own name
abbrev pub IsNamed : List ℕ × GroupRow → Type 0
IsNamed e = (name : List ℕ) → is_group name e.1 ≡ bytes_eq name e.0

-- each file has the names of its groups
pub record AreOf (at : List ℕ → Option GroupRow) (memberships : Memberships) : Type 0 where
  pub each : (file : ℕ) (name : List ℕ) → has memberships file name ≡ has_file file (at name)

-- the rows are under their names, no two under one, and each file has the names of its groups
pub record AreKept (es : List (List ℕ × GroupRow)) (memberships : Memberships) : Type 0 where
  pub apart : IsDistinct bytes_eq (keys_of es)
  pub named : AllByRecursion IsNamed es
  pub placed : AreOf (row_at es) memberships
