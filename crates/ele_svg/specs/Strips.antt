-- The strips of a summary: which versions pass each level of a ladder.
use Rattle.std.specs.List.{flat_map, fold, range_with_len}
use Rattle.std.specs.Prelude.{Bool, List, [], if◌then◌else◌, max, min, nat_lt, sum_by, true, ℕ, ◌&&◌, ◌*◌, ◌++◌, ◌+◌, ◌-◌, ◌/◌, ◌==◌, ◌∷◌}
use Rattle.ele_forecast.specs.declared.forecast.Forecast.{Forecast}
use Rattle.ele_forecast.specs.declared.forecast.Why.{Why}
use Rattle.ele_forecast.specs.declared.forecast.Why.TheVariants as why
use Rattle.ele_policy.specs.Ladder.{Rung, level_of}
use Rattle.ele_policy.specs.declared.cause.Cause.{Cause}
use Rattle.ele_policy.specs.declared.cause.Cause.TheVariants as cause
use Rattle.ele_svg.specs.Key.{strip_marks, strip_top}
use Rattle.ele_svg_marks.specs.Mark.{mark_text}
use Rattle.ele_svg_marks.specs.Places.{x_of}
use Rattle.ele_svg_marks.specs.declared.mark.Mark.{Mark}
use Rattle.ele_svg_marks.specs.declared.mark.Mark.TheVariants.{Line}
use Rattle.ele_svg_marks.specs.declared.mark.Stroke.{Stroke}
use Rattle.ele_svg_marks.specs.declared.mark.Stroke.TheVariants as stroke
use Rattle.ele_svg_marks.specs.declared.mark.Words.{Words}
use Rattle.ele_svg_marks.specs.declared.mark.Words.TheVariants as words
use Rattle.ele_svg_marks.specs.declared.page.Page.{Page}

-- a version passes a level if it is displaced at no level up to that one
abbrev pub passes_by : ℕ → Cause → Bool
passes_by level (cause.Displaced at by) = nat_lt level at
passes_by level other = true

abbrev pub passes : ℕ → Why → Bool
passes level (why.Goes cause) = passes_by level cause
passes level other = true

-- the column, four pixels wide, in which a version closed
abbrev pub column_of : Page → Forecast → ℕ
column_of page told = (x_of page told.closed - 150) / 4

-- 1 for a version of the column that passes the level, and else 0
abbrev pub one_in : Page → ℕ → ℕ → Forecast → ℕ
one_in page level column told = if (column_of page told == column) && passes level told.why then 1 else 0

-- how many versions of the column pass the level
abbrev pub count_in : Page → ℕ → ℕ → List Forecast → ℕ
count_in page level column forecasts = sum_by (one_in page level column) forecasts

-- the most in one of the 187 columns, and one at least
unfoldable pub most_in : Page → ℕ → List Forecast → ℕ
most_in page level forecasts = fold (λ most column. max most (count_in page level column forecasts)) 1 (range_with_len 0 187)

-- a column without versions has no bar, one has a bar of a pixel at least, and the most have one of 16
abbrev pub bar_height : ℕ → ℕ → ℕ
bar_height most count = if count == 0 then 0 else 1 + min (count * 15 / most) 15

abbrev pub bar_marks : Stroke → ℕ → ℕ → ℕ → List Mark
bar_marks drawn top column height =
    if nat_lt 0 height then Line (152 + 4 * column, top + 16) (152 + 4 * column, top + 16 - height) drawn ∷ [] else []

-- a strip has a bar for each column
abbrev pub bar_in : Page → ℕ → ℕ → List Forecast → ℕ → List ℕ
bar_in page top level forecasts column =
    flat_map mark_text (bar_marks stroke.Bar top column (bar_height (most_in page level forecasts) (count_in page level column forecasts)))

unfoldable pub bars_drawn : Page → ℕ → ℕ → List Forecast → List ℕ
bars_drawn page top level forecasts = flat_map (bar_in page top level forecasts) (range_with_len 0 187)

abbrev pub strip_drawn : Page → ℕ → Words → List Forecast → List ℕ
strip_drawn page level said forecasts =
    let top = strip_top page level in
    flat_map mark_text (strip_marks top said) ++ bars_drawn page top level forecasts

abbrev pub level_strip : Page → List Rung → List Forecast → Rung → List ℕ
level_strip page rungs forecasts rung = strip_drawn page (level_of rungs rung.0) (words.Level rung.0 rung.1) forecasts

-- a strip of all versions, and one for each level of the ladder
abbrev pub strips_drawn : Page → List Rung → List Forecast → List ℕ
strips_drawn page rungs forecasts = strip_drawn page 0 words.Closings forecasts ++ flat_map (level_strip page rungs forecasts) rungs
