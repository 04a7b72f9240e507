-- The names of versions, and the list of those that are due or kept at a moment.
use Rattle.std.specs.Prelude.{ℕ, ◌-◌, ◌==◌, ◌&&◌, nat_le, not, Bool, List, [], ◌∷◌, Option, Some, None, decimal, filter, map, slice_get, if◌then◌else◌}
use Rattle.std.specs.List.{flat_map, list_any}
use Rattle.ele_output.specs.Line.{line_text}
use Rattle.ele_forecast.specs.declared.forecast.Forecast.{Forecast}
use Rattle.ele_forecast_text.specs.declared.label.Label.{Label}
use Rattle.ele_forecast_text.specs.declared.staying.Staying.{Staying}

abbrev pub name_or : Option Label → ℕ → List ℕ
name_or (Some label) number = label.text.items
name_or None number = decimal number

-- the label of the version with the number, counted from 1, or the number if it has none
abbrev pub name_of : List Label → ℕ → List ℕ
name_of labels number = name_or (slice_get labels (number - 1)) number

-- the version with the number stays
abbrev pub stays_in : Staying → ℕ → Bool
stays_in staying number = list_any (λ other. other == number) staying.numbers.items

-- the version has closed by the moment, and is kept then, or is due if `kept` is false
abbrev pub is_listed : Bool → Staying → Forecast → Bool
is_listed kept staying told =
    nat_le told.closed staying.at && (if kept then stays_in staying told.number else not (stays_in staying told.number))

-- the numbers of the versions that are kept at the moment, or of those that are due
abbrev pub listed_at : Bool → List Forecast → Staying → List ℕ
listed_at kept forecasts staying = map (λ told. told.number) (filter (is_listed kept staying) forecasts)

-- the names of these versions, one a line
abbrev pub names_text : List Label → List ℕ → List ℕ
names_text labels numbers = flat_map (λ number. line_text (name_of labels number ∷ [])) numbers
