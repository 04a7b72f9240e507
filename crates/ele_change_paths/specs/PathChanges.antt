-- What changed between two moments, by path.
use Rattle.std.specs.Prelude.{◌≡◌, ℕ, Bool, true, false, ◌&&◌, ◌||◌, List, [], ◌∷◌, ◌++◌, Option, Some, None, filter, map, Result, Ok, Err}
use Rattle.std.specs.List.{AllZip}
use Rattle.std.specs.Option.{option_and_then, option_map, option_map_or}
use Rattle.std.specs.Str.{bytes_eq}
use Rattle.ele_name_paths.specs.LivePath.{live_path, names_in}
use Rattle.ele_changes.specs.Changes.{changes_between, span_refusal}
use Rattle.ele_changes.specs.declared.change.Change.{Change}
use Rattle.ele_changes.specs.declared.change.Span.{Span}
use Rattle.ele_model.specs.declared.refusal.Refusal.{Refusal}
use Rattle.ele_model.specs.declared.rows.NameRow.{NameRow}
use Rattle.ele_model.specs.declared.rows.Target.TheVariants.{Directory}
use Rattle.ele_model.specs.NameRows.{covers}
use Rattle.ele_model.specs.World.{World}
use Rattle.ele_change_paths.specs.declared.row.Difference.{Difference}
use Rattle.ele_change_paths.specs.declared.row.PathChange.{PathChange}

-- ---- paths

-- the name as it was while it lived
abbrev pub living : NameRow → NameRow
living row = record row { death = None }

-- the names of the moment, as a look-up with that moment sees them
abbrev pub names_then : ℕ → List NameRow → List NameRow
names_then moment rows = map living (filter (covers moment) rows)

-- the path of a name: that of its directory by these names, and then the name
abbrev pub path_of_name : List NameRow → NameRow → Option (List (List ℕ))
path_of_name rows row = option_map (λ names. names ++ row.name ∷ []) (live_path rows (Directory row.directory))

-- none without a name
abbrev pub path_by : List NameRow → Option NameRow → Option (List (List ℕ))
path_by rows row = option_and_then (path_of_name rows) row

-- ---- which changes are asked for

-- the names begin with these of the path
abbrev pub is_within : List (List ℕ) → List (List ℕ) → Bool
is_within [] names = true
is_within (step ∷ steps) [] = false
is_within (step ∷ steps) (name ∷ names) = bytes_eq name step && is_within steps names

-- one of the paths is at this one or below it; without one to ask for, any is
abbrev pub touches : Option (List (List ℕ)) → Option (List (List ℕ)) → Option (List (List ℕ)) → Bool
touches None from to = true
touches (Some path) from to = option_map_or (is_within path) from false || option_map_or (is_within path) to false

abbrev pub is_asked : (was is : List NameRow) → Option (List (List ℕ)) → Change → Bool
is_asked was is within change = touches within (path_by was change.from) (path_by is change.to)

-- ---- the rows

-- the change with the paths of its name, by the names of each moment
pub record IsPathChange (was is : List NameRow) (change : Change) (row : PathChange) : Type 0 where
  pub change_is : row.change ≡ change
  pub from : names_in row.from ≡ path_by was change.from
  pub to : names_in row.to ≡ path_by is change.to

-- these are the changes that are asked for, in order
abbrev pub ArePathChanges : (was is : List NameRow) → Option (List (List ℕ)) → List Change → List PathChange → Type 0
ArePathChanges was is within changes rows = AllZip (IsPathChange was is) (filter (is_asked was is within) changes) rows

-- the changes between the moments, or why these are refused
abbrev pub IsDifference : World → Span → Option (List (List ℕ)) → Result Difference Refusal → Type 0
IsDifference w span within (Ok found) =
    (span_refusal w.now span ≡ None) × ArePathChanges (names_then span.first w.names) (names_then span.second w.names) within (changes_between w span) found.rows.items
IsDifference w span within (Err refusal) = span_refusal w.now span ≡ Some refusal
