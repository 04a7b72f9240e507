-- The invariant of the fields of `Names`. No public clause cites this module.
use Rattle.std.specs.Prelude.{◌≡◌, ℕ, ◌≤◌, ◌<◌, ◌^◌, ◌&&◌, nat_le, Bool, List, length}
use Rattle.std.specs.List.{count_by, AllByRecursion}
use Rattle.std.specs.List.Sorted.{IsStrictlySortedBy}
use Rattle.std.specs.Ordering.{nat_cmp}
use Rattle.std.specs.Map.{keys_of, values_of}
use Rattle.ele_lists.specs.Lists.{AllLater}
use Rattle.ele_rows.specs.Serial.{value_at}
use Rattle.ele_moment.specs.Last.{last_moment}
use Rattle.ele_model.specs.declared.rows.NameRow.{NameRow}
use Rattle.ele_model.specs.declared.rows.Target.{Target}
use Rattle.ele_model.specs.NameRows.{is_named}
use Rattle.ele_names.specs.declared.live_names.LiveNames.{LiveNames}
use Rattle.ele_names.specs.declared.table.Table.{Table}
use Rattle.ele_names.specs.Rows.{Follows}
use Rattle.ele_names.specs.Placed.{AreListed, AreIndexed, live_of, names_of, number_in}
use Rattle.ele_names.specs.Targets.{is_live_of}
use Rattle.ele_names.specs.Counted.{AreCounted, AreNumbered}

-- the rows, in order of making
abbrev pub rows_of : Table → List NameRow
rows_of table = values_of table.rows.entries

-- a row of that name in the directory that was born by the moment
abbrev pub is_born_by : ℕ → List ℕ → ℕ → NameRow → Bool
is_born_by directory name moment row = is_named directory name row && nat_le row.birth moment

-- the rows are at their places, and those of one name follow each other in time
pub record IsTable (names : List (ℕ × List ℕ)) (table : Table) : Type 0 where
  pub rising : IsStrictlySortedBy nat_cmp (keys_of table.rows.entries)
  pub short : AllByRecursion (λ serial. serial < 2 ^ 64) (keys_of table.rows.entries)
  pub born : AllByRecursion (λ row. row.birth ≤ last_moment) (rows_of table)
  pub apart : AllLater Follows (rows_of table)
  pub known : AllByRecursion (λ row. number_in names row < length names) (rows_of table)
  pub placed : AreIndexed names (value_at table.rows.entries) table.places

-- and the live rows are in the table and counted
pub record IsKept (table : Table) (live_names : LiveNames) : Type 0 where
  pub is_table : IsTable (names_of live_names) table
  pub listed : AreListed live_names
  pub counts : AreCounted (rows_of table) live_names
  pub numbered : AreNumbered (value_at table.rows.entries) live_names
  pub targets : (t : Target) → live_of table.places t ≡ count_by (is_live_of t) (rows_of table)
