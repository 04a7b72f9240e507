-- A forecast as a drawing: an SVG 1.1 document, with time from left to right and a row for each version.
use Rattle.std.specs.List.{flat_map}
use Rattle.std.specs.Prelude.{List, None, Option, Some, [], codes, length, slice_get, ℕ, ◌++◌, ◌+◌, ◌-◌, ◌/◌, ◌<◌, ◌∷◌}
use Rattle.ele_forecast.specs.declared.forecast.Forecast.{Forecast}
use Rattle.ele_forecast.specs.declared.forecast.Why.{Why}
use Rattle.ele_forecast.specs.declared.forecast.Why.TheVariants as why
use Rattle.ele_forecast_text.specs.Table.{table_line}
use Rattle.ele_forecast_text.specs.declared.plan.Plan.{Plan}
use Rattle.ele_forecast_text.specs.declared.staying.Staying.{Staying}
use Rattle.ele_policy.specs.declared.cause.Cause.{Cause}
use Rattle.ele_policy.specs.declared.cause.Cause.TheVariants as cause
use Rattle.ele_policy.specs.declared.policy.Policy.{Policy}
use Rattle.ele_svg.specs.Frame.{frame_drawn}
use Rattle.ele_svg.specs.Notes.{notes_of_plan}
use Rattle.ele_svg.specs.Shapes.{bar_of, beside_of, due_bar_of, square_of}
use Rattle.ele_svg_marks.specs.Labels.{labels_drawn}
use Rattle.ele_svg_marks.specs.Mark.{mark_text}
use Rattle.ele_svg_marks.specs.Places.{page_of, x_of, x_or, y_of}
use Rattle.ele_svg_marks.specs.declared.mark.Fill.TheVariants as fill
use Rattle.ele_svg_marks.specs.declared.mark.Mark.{Mark}
use Rattle.ele_svg_marks.specs.declared.mark.Mark.TheVariants.{Line}
use Rattle.ele_svg_marks.specs.declared.mark.Side.TheVariants.{Before, Behind}
use Rattle.ele_svg_marks.specs.declared.mark.Stroke.TheVariants.{Dashed, Dotted}
use Rattle.ele_svg_marks.specs.declared.mark.Words.{Words}
use Rattle.ele_svg_marks.specs.declared.mark.Words.TheVariants as words
use Rattle.ele_svg_marks.specs.declared.page.Page.{Page}

-- what is said where the bar of a version ends: that it is due, and by which version
abbrev pub cause_end : Cause → Words
cause_end cause.AtOnce = words.Due
cause_end (cause.Age seconds) = words.Due
cause_end (cause.Displaced level by) = words.DueBy by

-- or why there is no such end
abbrev pub end_words : Why → Words
end_words why.Current = words.Current
end_words why.Never = words.Kept
end_words why.AfterLast = words.Kept
end_words (why.Goes cause) = cause_end cause

-- a version: a bar from its closing to the moment from which it may be forgotten, darker up to its end, a thin one from then on,
-- a square where it closed, its number and why the bar ends
abbrev pub version_marks : Page → Forecast → List Mark
version_marks page told =
    let x = x_of page told.closed in
    let y = y_of page told.number in
    let end = x_or page told.ripe in
    due_bar_of page y end ∷ bar_of page y x end fill.Kept ∷ bar_of page y x (x_or page told.ended) fill.Current ∷ square_of page x y fill.Paper
    ∷ beside_of page 140 y Before (words.Number told.number) ∷ beside_of page (end + 4) y Behind (end_words told.why) ∷ []

-- and a title, which is the version's line of the table
abbrev pub version_drawn : Policy → Page → Forecast → List ℕ
version_drawn policy page told =
    codes "<g><title>version " ++ (table_line policy told ++ (codes "</title>\n" ++ (flat_map mark_text (version_marks page told) ++ codes "</g>\n")))

-- from the place where a version's bar ends down to the row of the version that displaces it, and back to where that one closed
abbrev pub tie_marks : Page → ℕ → ℕ → Forecast → List Mark
tie_marks page number ripe other =
    let x = x_of page ripe in
    let y = y_of page other.number in
    Line (x, y_of page number) (x, y) Dotted ∷ Line (x_of page other.closed, y) (x, y) Dotted ∷ []

abbrev pub tie_from : Page → ℕ → Option ℕ → Option Forecast → List Mark
tie_from page number (Some ripe) (Some other) = tie_marks page number ripe other
tie_from page number (Some ripe) None = []
tie_from page number None other = []

-- a version that another one displaces is tied to that one, whose number tells its place
abbrev pub ties_for : Page → List Forecast → Forecast → Cause → List Mark
ties_for page forecasts told (cause.Displaced level by) = tie_from page told.number told.ripe (slice_get forecasts (by - 1))
ties_for page forecasts told other = []

abbrev pub ties_of : Page → List Forecast → Forecast → Why → List Mark
ties_of page forecasts told (why.Goes cause) = ties_for page forecasts told cause
ties_of page forecasts told other = []

abbrev pub version_tied : Page → List Forecast → Forecast → List ℕ
version_tied page forecasts told = flat_map mark_text (ties_of page forecasts told told.why)

-- a moment that is asked about: a line over all rows
abbrev pub asked_marks : Page → ℕ → List Mark
asked_marks page at = Line (x_of page at, page.top) (x_of page at, page.foot) Dashed ∷ []

abbrev pub moment_drawn : Page → Staying → List ℕ
moment_drawn page staying = flat_map mark_text (asked_marks page staying.at)

-- on that line each version that stays has a filled square
abbrev pub kept_marks : Page → ℕ → ℕ → List Mark
kept_marks page at number = square_of page (x_of page at) (y_of page number) fill.Stays ∷ []

abbrev pub kept_drawn : Page → Staying → List ℕ
kept_drawn page staying = flat_map (λ number. flat_map mark_text (kept_marks page staying.at number)) staying.numbers.items

-- the versions, behind their ties and the moments that are asked about, what stays at these, and how many
abbrev pub rows_drawn : Page → Policy → List Forecast → List Staying → List ℕ
rows_drawn page policy forecasts stayings =
    flat_map (version_tied page forecasts) forecasts
    ++ (flat_map (moment_drawn page) stayings ++ (flat_map (version_drawn policy page) forecasts ++ (flat_map (kept_drawn page) stayings
    ++ (notes_of_plan page 0 stayings ++ labels_drawn page stayings))))

-- a drawing with a row for each version
abbrev pub rows_text : List ℕ → Plan → List ℕ
rows_text title plan =
    let forecasts = plan.forecasts.items in
    let stayings = plan.stayings.items in
    let page = page_of plan.policy forecasts stayings in
    frame_drawn page title plan.policy (length forecasts) ++ (rows_drawn page plan.policy forecasts stayings ++ codes "</svg>\n")
