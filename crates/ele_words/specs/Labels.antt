-- What is asked for once the labels of another tool are read.
use Rattle.std.specs.Prelude.{◌≡◌, ℕ, List, Option, None, option_map, string_bytes}
use Rattle.std.specs.Io.KnownBytes.{Consumes, IsAtEnd, Keeps}
use Rattle.ele_outlook.specs.declared.options.ForecastOptions.{ForecastOptions}
use Rattle.ele_invocation.specs.Invocation.{IsRefusal}
use Rattle.ele_invocation.specs.declared.invocation.Invocation.{Invocation}
use Rattle.ele_invocation.specs.declared.invocation.Invocation.TheVariants.{Forecast}

-- the name of the file with these labels
abbrev pub labels_file : Invocation → Option (List ℕ)
labels_file (Forecast ask file) = option_map string_bytes file
labels_file asked = None

-- the same forecast, with this text as the labels
pub record HasLabels (text : List ℕ) (ask given : ForecastOptions) : Type 0 where
  pub labels : given.others.items ≡ text
  pub same : given ≡ record ask { others = given.others }

-- a forecast has all that was read as its labels, or there is none; other invocations stay, and nothing is read
abbrev pub IsWithLabels : Invocation → Option (List ℕ) → Option (List ℕ) → Invocation → Type 0
IsWithLabels (Forecast ask file) input rest (Forecast given name) =
    (text : List ℕ) × Consumes input rest text × IsAtEnd rest × HasLabels text ask given × (name ≡ file)
IsWithLabels (Forecast ask file) input rest asked = IsRefusal asked
IsWithLabels asked input rest given = (given ≡ asked) × Keeps input rest
