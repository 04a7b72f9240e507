-- What is written beside the moments of a drawing.
use Rattle.std.specs.List.{flat_map}
use Rattle.std.specs.Prelude.{List, None, Option, Some, [], if◌then◌else◌, length, min, nat_lt, slice_get, ℕ, ◌*◌, ◌+◌, ◌-◌, ◌∷◌}
use Rattle.ele_forecast.specs.declared.forecast.Forecast.{Forecast}
use Rattle.ele_forecast_text.specs.declared.plan.Plan.{Plan}
use Rattle.ele_forecast_text.specs.declared.staying.Staying.{Staying}
use Rattle.ele_svg.specs.Key.{place_after}
use Rattle.ele_svg_marks.specs.Mark.{mark_text}
use Rattle.ele_svg_marks.specs.Places.{x_of}
use Rattle.ele_svg_marks.specs.Walk.{walked}
use Rattle.ele_svg_marks.specs.declared.mark.Mark.{Mark}
use Rattle.ele_svg_marks.specs.declared.mark.Mark.TheVariants.{Line, Text}
use Rattle.ele_svg_marks.specs.declared.mark.Side.TheVariants.{Before, Behind}
use Rattle.ele_svg_marks.specs.declared.mark.Stroke.TheVariants as stroke
use Rattle.ele_svg_marks.specs.declared.mark.Words.{Words}
use Rattle.ele_svg_marks.specs.declared.mark.Words.TheVariants as words
use Rattle.ele_svg_marks.specs.declared.page.Page.{Page}

-- a text beside a line: left of it, if there is no room on its right
abbrev pub note_at : ℕ → ℕ → Words → Mark
note_at x y said = if nat_lt x 800 then Text (x + 4) y 9 Behind said else Text (x - 4) y 9 Before said

-- how far from above the note of the policy at that place is
abbrev pub note_y : Page → ℕ → ℕ
note_y page place = page.top + 10 + 11 * min place 64

abbrev pub stay_words : Staying → Words
stay_words staying = words.Stay (length staying.numbers.items)

-- how many versions stay at a moment under the policy at that place
abbrev pub note_marks : Page → ℕ → Staying → List Mark
note_marks page place staying = note_at (x_of page staying.at) (note_y page place) (stay_words staying) ∷ []

abbrev pub notes_of_plan : Page → ℕ → List Staying → List ℕ
notes_of_plan page place stayings = flat_map (λ staying. flat_map mark_text (note_marks page place staying)) stayings

abbrev pub plan_noted : Page → ℕ → Plan → List ℕ
plan_noted page place plan = notes_of_plan page place plan.stayings.items

-- under each policy, the first on top
abbrev pub notes_drawn : Page → List Plan → List ℕ
notes_drawn page plans = walked (plan_noted page) place_after 0 plans

-- where a version closed, if the drawing goes on behind it
abbrev pub newest_marks : Page → Forecast → List Mark
newest_marks page told =
    if nat_lt told.closed page.last
    then Line (x_of page told.closed, page.top) (x_of page told.closed, page.top + 240) stroke.Dotted
    ∷ note_at (x_of page told.closed) (page.top + 232) words.NoNewer ∷ []
    else []

abbrev pub newest_of : Page → Option Forecast → List ℕ
newest_of page None = []
newest_of page (Some told) = flat_map mark_text (newest_marks page told)

-- the last of the versions
abbrev pub newest_drawn : Page → List Forecast → List ℕ
newest_drawn page forecasts = newest_of page (slice_get forecasts (length forecasts - 1))
