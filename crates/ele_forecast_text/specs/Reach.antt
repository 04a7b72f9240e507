-- From which moment on forecasts describe versions, and up to which.
use Rattle.std.specs.Prelude.{ℕ, max, List, [], ◌∷◌, unwrap_or}
use Rattle.std.specs.List.{fold}
use Rattle.ele_forecast.specs.declared.forecast.Forecast.{Forecast}

-- the first closing
abbrev pub first_of : List Forecast → ℕ
first_of [] = 0
first_of (told ∷ forecasts) = told.closed

-- how far a forecast reaches: the moment from which its version may be forgotten, or its closing if there is none
abbrev pub reach_of : Forecast → ℕ
reach_of told = unwrap_or told.ripe told.closed

-- the last moment that these reach, or the one before them if that is later
abbrev pub last_of : ℕ → List Forecast → ℕ
last_of last forecasts = fold (λ last told. max last (reach_of told)) last forecasts
