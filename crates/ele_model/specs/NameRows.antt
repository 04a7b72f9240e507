-- What name rows say of a name, a directory or a file, now and at earlier moments.
use Rattle.std.specs.Prelude.{ℕ, ◌==◌, ◌&&◌, nat_le, nat_lt, Bool, true, false, List, Option, Some, None, is_none, is_some, find}
use Rattle.std.specs.Option.{option_map, option_map_or}
use Rattle.std.specs.Str.{bytes_eq}
use Rattle.ele_lists.specs.Last.{last_passing, passing}
use Rattle.ele_model.specs.declared.rows.NameRow.{NameRow}
use Rattle.ele_model.specs.declared.rows.Target.{Target}
use Rattle.ele_model.specs.declared.rows.Target.TheVariants.{File, Directory}

-- a row at its birth
abbrev pub born_row : ℕ → List ℕ → Target → ℕ → NameRow
born_row directory name target birth = record {
  directory = directory;
  name = name;
  target = target;
  birth = birth;
  death = None;
}

-- the row with a death at the moment
abbrev pub dies : ℕ → NameRow → NameRow
dies moment row = record row { death = Some moment }

-- a row of that name in the directory
abbrev pub is_named : ℕ → List ℕ → NameRow → Bool
is_named directory name row = (row.directory == directory) && bytes_eq row.name name

-- the row has no death, or one after the moment
abbrev pub lives_past : ℕ → NameRow → Bool
lives_past moment row = option_map_or (λ death. nat_lt moment death) row.death true

-- the row covers the moment: it was born by then, and was not dead then
abbrev pub covers : ℕ → NameRow → Bool
covers moment row = nat_le row.birth moment && lives_past moment row

-- what the name in the directory meant at the moment
abbrev pub target_at : List NameRow → ℕ → ℕ → List ℕ → Option Target
target_at rows moment directory name =
    option_map (λ row. row.target) (find (λ row. is_named directory name row && covers moment row) rows)

-- the target of the name's newest row, if that row is dead
abbrev pub last_dead : List NameRow → ℕ → List ℕ → Option Target
last_dead rows directory name =
    option_map (λ row. row.target) (passing (λ row. is_some row.death) (last_passing (is_named directory name) rows))

-- the row is a live name in the directory
abbrev pub is_live_in : ℕ → NameRow → Bool
is_live_in directory row = (row.directory == directory) && is_none row.death

abbrev pub is_target_directory : ℕ → Target → Bool
is_target_directory id (File file) = false
is_target_directory id (Directory directory) = directory == id

-- a name of the directory, live or dead
abbrev pub is_name_of_directory : ℕ → NameRow → Bool
is_name_of_directory id row = is_target_directory id row.target

-- a name of the directory that has no death
abbrev pub is_live_directory : ℕ → NameRow → Bool
is_live_directory id row = is_target_directory id row.target && is_none row.death
