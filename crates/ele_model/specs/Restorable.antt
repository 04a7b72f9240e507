-- Which names are restorable.
use Rattle.std.specs.Prelude.{ℕ, ◌-◌, Bool, not, List, [], fold, Option, Some, None, is_some, Result, Ok, Err, if◌then◌else◌}
use Rattle.std.specs.BTreeMap.{insert_entry}
use Rattle.std.specs.Cmp.Lexicographic.{slice_cmp}
use Rattle.std.specs.List.{list_any, filter_map}
use Rattle.std.specs.Option.{option_map_or}
use Rattle.std.specs.Ordering.{nat_cmp, ordering_then}
use Rattle.std.specs.declared.cmp.Ordering.{Ordering}
use Rattle.ele_model.specs.declared.refusal.Refusal.{Refusal}
use Rattle.ele_model.specs.declared.refusal.Refusal.TheVariants.{NoEntry}
use Rattle.ele_model.specs.declared.rows.DeletedName.{DeletedName}
use Rattle.ele_model.specs.declared.rows.NameRow.{NameRow}
use Rattle.ele_model.specs.declared.rows.Target.{Target}
use Rattle.ele_model.specs.declared.rows.Target.TheVariants.{File, Directory}
use Rattle.ele_model.specs.NameRows.{is_live_directory, last_dead}
use Rattle.ele_model.specs.World.{World, next_of, is_held, is_live}

-- the target may have a name again: a directory that has none, or a file whose last version is held
abbrev pub may_return : World → Target → Bool
may_return w (File file) = is_held w file (next_of w.files file - 1)
may_return w (Directory id) = not (list_any (is_live_directory id) w.names)

-- what the deleted name last meant
abbrev pub last_target : List NameRow → ℕ → List ℕ → Result Target Refusal
last_target rows directory name = option_map_or Ok (last_dead rows directory name) (Err NoEntry)

-- the file, if it has no live name
abbrev pub nameless : World → Target → Option ℕ
nameless w (File file) = if is_live w file then None else Some file
nameless w (Directory id) = None

-- by directory, then by the bytes of the name
abbrev pub name_cmp : ℕ × List ℕ → ℕ × List ℕ → Ordering
name_cmp a b = ordering_then (nat_cmp a.0 b.0) (slice_cmp nat_cmp a.1 b.1)

-- the newest row of each directory and name, in that order
abbrev pub newest_rows : List NameRow → List ((ℕ × List ℕ) × NameRow)
newest_rows rows = fold (λ newest row. insert_entry name_cmp newest (row.directory, row.name) row) [] rows

-- the deleted name, if its last target may have a name again
abbrev pub returning_name : World → ℕ × List ℕ × Target → Option DeletedName
returning_name w lost = if may_return w lost.2 then Some (record { directory = lost.0; name = lost.1; target = lost.2 }) else None

-- the name of the newest row, if that is dead
abbrev pub returning : World → NameRow → Option DeletedName
returning w row = if is_some row.death then returning_name w (row.directory, row.name, row.target) else None

-- the restorable names
unfoldable pub restorable : World → List DeletedName
restorable w = filter_map (λ (entry : (ℕ × List ℕ) × NameRow). returning w entry.1) (newest_rows w.names)

-- a deleted name as a triple of its directory, its name and what it last meant
abbrev pub triple_of : DeletedName → ℕ × List ℕ × Target
triple_of row = (row.directory, row.name, row.target)

-- the deleted name of a triple
abbrev pub row_of : ℕ × List ℕ × Target → DeletedName
row_of given = record { directory = given.0; name = given.1; target = given.2 }
