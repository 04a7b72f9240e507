-- Which versions a forecast keeps at a moment, and which of them another tool keeps, by its labels.
use Rattle.std.specs.Prelude.{◌≡◌, ℕ, ◌+◌, Bool, true, false, not, List, [], ◌∷◌, ◌++◌, filter, bytes_eq}
use Rattle.std.specs.List.{list_any}
use Rattle.ele_forecast.specs.declared.forecast.Forecast.{Forecast}
use Rattle.ele_forecast_text.specs.Labels.{listed_at, name_of}
use Rattle.ele_forecast_text.specs.declared.label.Label.{Label}
use Rattle.ele_forecast_text.specs.declared.staying.Staying.{Staying}
use Rattle.ele_against.specs.declared.compared.Compared.{Compared}

-- the text is one of the labels
abbrev pub is_among : List Label → List ℕ → Bool
is_among labels text = list_any (λ label. bytes_eq text label.text.items) labels

-- it is, or it isn't
abbrev pub is_wanted : Bool → Bool → Bool
is_wanted true named = named
is_wanted false named = not named

-- of the versions with these numbers, those whose labels are among the others, or aren't if `named` is false
abbrev pub chosen_of : Bool → List Label → List Label → List ℕ → List ℕ
chosen_of named others labels numbers = filter (λ number. is_wanted named (is_among others (name_of labels number))) numbers

abbrev pub line_if : Bool → ℕ → List ℕ
line_if true line = []
line_if false line = line ∷ []

-- the lines of the others that are no label of a version; the first has this number
abbrev pub unknown_from : List Label → ℕ → List Label → List ℕ
unknown_from labels line [] = []
unknown_from labels line (other ∷ others) = line_if (is_among labels other.text.items) line ++ unknown_from labels (line + 1) others

-- `both` are kept here and there, `here` only here, `there` only there: they have closed by the moment at which those of `staying`
-- stay. `unknown` are the lines of the others, counted from 1, that are no label of a version
pub record IsCompared (labels : List Label) (forecasts : List Forecast) (staying : Staying) (others : List Label) (compared : Compared) : Type 0 where
  pub both_at : compared.both.at ≡ staying.at
  pub both : compared.both.numbers.items ≡ chosen_of true others labels (listed_at true forecasts staying)
  pub here_at : compared.here.at ≡ staying.at
  pub here : compared.here.numbers.items ≡ chosen_of false others labels (listed_at true forecasts staying)
  pub there_at : compared.there.at ≡ staying.at
  pub there : compared.there.numbers.items ≡ chosen_of true others labels (listed_at false forecasts staying)
  pub unknown : compared.unknown.items ≡ unknown_from labels 1 others
