-- Which rows the live rows and their counts describe. No public clause cites this module.
use Rattle.std.specs.Prelude.{◌≡◌, ℕ, ◌+◌, true, false, List, Option, Some, None, cond}
use Rattle.std.specs.HashMap.{HashMap, get}
use Rattle.std.specs.List.{count_by}
use Rattle.std.specs.Option.{option_and_then, option_map, option_map_or}
use Rattle.ele_model.specs.declared.rows.NameRow.{NameRow}
use Rattle.ele_model.specs.declared.rows.Target.{Target}
use Rattle.ele_model.specs.NameRows.{is_live_in}
use Rattle.ele_model.specs.Walk.{is_live_name, live_target}
use Rattle.ele_names.specs.declared.live_names.Live.{Live}
use Rattle.ele_names.specs.declared.live_names.LiveNames.{LiveNames}
use Rattle.ele_names.specs.Chained.{live_in}
use Rattle.ele_names.specs.Placed.{name_eq}
use Rattle.ele_names.specs.Targets.{is_live_of}

-- the live row of the name
abbrev pub live_row : {S : Type 0} → HashMap (ℕ × List ℕ) (Option (Live Target)) S → ℕ → List ℕ → Option (Live Target)
live_row by_name d n = option_and_then (λ live. live) (get name_eq by_name (d, n))

abbrev pub live_at : LiveNames → ℕ → List ℕ → Option (Live Target)
live_at live_names = live_row live_names.by_name

-- the table has exactly the live rows, and the count of each directory
pub record AreCounted (rows : List NameRow) (live_names : LiveNames) : Type 0 where
  pub named : (d : ℕ) (n : List ℕ) → option_map (λ live. live.target) (live_at live_names d n) ≡ live_target rows d n
  pub in_directory : (d : ℕ) → live_in live_names.in_directory d ≡ count_by (is_live_in d) rows

-- the serial number of each live row is that of a live row of its name
pub record AreNumbered (at : ℕ → Option NameRow) (live_names : LiveNames) : Type 0 where
  pub each : (d : ℕ) (n : List ℕ) (live : Live Target) → live_at live_names d n ≡ Some live → option_map_or (is_live_name d n) (at live.serial) false ≡ true

-- the second list has the live rows of the first, without the row if that is live
pub record Leaves (row : NameRow) (was now : List NameRow) : Type 0 where
  pub named : (d : ℕ) (n : List ℕ) → live_target now d n ≡ cond (is_live_name d n row) None (live_target was d n)
  pub its : (d : ℕ) (n : List ℕ) → is_live_name d n row ≡ true → live_target was d n ≡ Some row.target
  pub in_directory : (d : ℕ) → count_by (is_live_in d) now + cond (is_live_in d row) 1 0 ≡ count_by (is_live_in d) was
  pub of_target : (t : Target) → count_by (is_live_of t) now + cond (is_live_of t row) 1 0 ≡ count_by (is_live_of t) was
