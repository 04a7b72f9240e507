-- What becomes of a file's versions under some policies, as a drawing.
use Rattle.std.specs.Prelude.{ℕ, nat_lt, Bool, true, false, List, [], ◌∷◌, length, Option, Some, None, slice_get, if◌then◌else◌}
use Rattle.ele_forecast_forms.specs.declared.counts.Counts.{Counts}
use Rattle.ele_forecast_text.specs.declared.plan.Plan.{Plan}
use Rattle.ele_svg.specs.Rows.{rows_text}
use Rattle.ele_svg.specs.Summary.{column_moments, summary_text}
use Rattle.ele_svg.specs.declared.measure.Measure.TheVariants.{Versions, Bytes}

-- a summary has a curve for each policy, and it is drawn of several policies, or of one with more than 200 versions
abbrev pub has_curves : List Plan → Bool
has_curves [] = false
has_curves (plan ∷ []) = nat_lt 200 (length plan.forecasts.items)
has_curves (plan ∷ next ∷ plans) = true

-- the moments of the points of the curves of a drawing
abbrev pub drawn_moments : List Plan → List ℕ
drawn_moments plans = if has_curves plans then column_moments plans else []

-- without curves the versions of the policy have a row each
abbrev pub single_text : List ℕ → List Plan → List Counts → Option Plan → List ℕ
single_text title plans rows None = summary_text Versions title plans rows
single_text title plans rows (Some plan) = rows_text title plan

abbrev pub drawing_text : List ℕ → List Plan → List Counts → List ℕ
drawing_text title plans rows = if has_curves plans then summary_text Versions title plans rows else single_text title plans rows (slice_get plans 0)

-- a drawing of the bytes that stay always has curves
abbrev pub bytes_text : List ℕ → List Plan → List Counts → List ℕ
bytes_text title plans rows = summary_text Bytes title plans rows
