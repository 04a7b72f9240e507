-- The numbers of names, and the places of rows. No public clause cites this module.
use Rattle.std.specs.Prelude.{◌≡◌, ℕ, ◌<◌, ◌^◌, ◌&&◌, Bool, List, Option, length, slice_get}
use Rattle.std.specs.Bool.{nat_eq}
use Rattle.std.specs.HashMap.{keys}
use Rattle.std.specs.List.{position_or_len}
use Rattle.std.specs.Str.{bytes_eq}
use Rattle.ele_rows.specs.Tally.{counted}
use Rattle.ele_model.specs.declared.rows.NameRow.{NameRow}
use Rattle.ele_model.specs.declared.rows.Target.{Target}
use Rattle.ele_model.specs.declared.rows.Target.TheVariants.{Directory, File}
use Rattle.ele_model.specs.World.{is_target_file}
use Rattle.ele_names.specs.declared.live_names.LiveNames.{LiveNames}
use Rattle.ele_names.specs.declared.places.Places.{Places}
use Rattle.ele_names.specs.BirthIndex.{AreBirthsOf}
use Rattle.ele_names.specs.Chained.{AreChained, live_in}

-- the two directories and names are equal
abbrev pub name_eq : ℕ × List ℕ → ℕ × List ℕ → Bool
name_eq a b = nat_eq a.0 b.0 && bytes_eq a.1 b.1

-- the names ever given
abbrev pub names_of : LiveNames → List (ℕ × List ℕ)
names_of live_names = keys live_names.by_name

-- the number of the name, or how many names there are if it isn't one of them
abbrev pub place_in : List (ℕ × List ℕ) → ℕ → List ℕ → ℕ
place_in names d n = position_or_len (name_eq (d, n)) names

abbrev pub number_in : List (ℕ × List ℕ) → NameRow → ℕ
number_in names row = place_in names row.directory row.name

-- each name of the first list has its number in the second
pub record KeepsPlaces (old new : List (ℕ × List ℕ)) : Type 0 where
  pub each : (d : ℕ) (n : List ℕ) → place_in old d n < length old → (place_in new d n ≡ place_in old d n) × (place_in new d n < length new)

-- the names of each directory are a chain
pub record AreListed (live_names : LiveNames) : Type 0 where
  pub few : length (names_of live_names) < 2 ^ 64
  pub each : AreChained (λ d name. nat_eq name.0 d) (slice_get (names_of live_names)) live_names.in_directory

-- a row of the file
abbrev pub is_of : ℕ → NameRow → Bool
is_of file row = is_target_file file row.target

-- the count of the target's live rows
abbrev pub live_of : Places → Target → ℕ
live_of places (File file) = live_in places.of_file file
live_of places (Directory directory) = counted nat_eq places.of_directory directory

-- the index finds the rows of each name by their births, and those of each file as a chain
pub record AreIndexed (names : List (ℕ × List ℕ)) (at : ℕ → Option NameRow) (places : Places) : Type 0 where
  pub named : AreBirthsOf (number_in names) (λ row. row.birth) at places.by_name
  pub chained : AreChained is_of at places.of_file
