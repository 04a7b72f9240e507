-- What stands round the rows: the title, the policy, the legend, the ticks, and the levels of a ladder.
use Rattle.std.specs.List.{flat_map, range_with_len}
use Rattle.std.specs.Prelude.{List, [], if◌then◌else◌, min, nat_lt, ℕ, ◌*◌, ◌++◌, ◌+◌, ◌-◌, ◌/◌, ◌<◌, ◌^◌, ◌∷◌}
use Rattle.ele_policy.specs.Ladder.{Rung, level_of}
use Rattle.ele_policy.specs.declared.policy.Policy.{Policy}
use Rattle.ele_svg.specs.declared.rows.Scale.{Scale}
use Rattle.ele_svg.specs.declared.rows.Scale.TheVariants.{Band, Foot}
use Rattle.ele_svg_marks.specs.Calendar.{begins, date_words, in_seconds, seconds_of, step_of}
use Rattle.ele_svg_marks.specs.Head.{head_drawn, heading_drawn, legend_drawn}
use Rattle.ele_svg_marks.specs.Mark.{mark_text}
use Rattle.ele_svg_marks.specs.Page.{rungs_of}
use Rattle.ele_svg_marks.specs.Places.{span_of, x_of}
use Rattle.ele_svg_marks.specs.declared.calendar.Step.{Step}
use Rattle.ele_svg_marks.specs.declared.mark.Fill.TheVariants as fill
use Rattle.ele_svg_marks.specs.declared.mark.Mark.{Mark}
use Rattle.ele_svg_marks.specs.declared.mark.Mark.TheVariants.{Line, Rect, Text}
use Rattle.ele_svg_marks.specs.declared.mark.Side.TheVariants.{Around, Before}
use Rattle.ele_svg_marks.specs.declared.mark.Stroke.TheVariants.{Grid, Thin}
use Rattle.ele_svg_marks.specs.declared.mark.Words.TheVariants as words
use Rattle.ele_svg_marks.specs.declared.page.Page.{Page}

-- a tick: a line over all rows, and the moment below
abbrev pub foot_marks : Page → Step → ℕ → List Mark
foot_marks page step moment =
    let x = x_of page moment in
    Line (x, page.top) (x, page.foot) Grid ∷ Text x (page.foot + 12) 9 Around (in_seconds page moment (date_words step moment)) ∷ []

abbrev pub tick_marks : Page → Step → ℕ → List Mark
tick_marks page step moment = if begins step moment then foot_marks page step moment else []

-- a border between two spans of a level
abbrev pub border_marks : Page → ℕ → ℕ → List Mark
border_marks page top moment = Line (x_of page moment, top) (x_of page moment, top + 16) Thin ∷ []

-- what is drawn at a band stands on the page
abbrev pub IsOnPage : Scale → Type 0
IsOnPage (Foot step) = Unit {0}
IsOnPage (Band top) = top < 2 ^ 60

abbrev pub scale_marks : Page → Scale → ℕ → List Mark
scale_marks page (Foot step) moment = tick_marks page step moment
scale_marks page (Band top) moment = border_marks page top moment

-- the scale at each multiple of so many seconds behind the first moment and up to the last
abbrev pub scale_drawn : Page → Scale → ℕ → List ℕ
scale_drawn page scale step =
    flat_map (λ k. flat_map mark_text (scale_marks page scale (k * step))) (range_with_len (page.first / step + 1) (page.last / step - page.first / step))

-- the ticks: of the multiples behind the first moment and up to the last, those that begin a step
abbrev pub foot_drawn : Page → List ℕ
foot_drawn page = scale_drawn page (Foot (step_of page)) (seconds_of (step_of page))

-- how far from above the band of that level begins
abbrev pub band_top : ℕ → ℕ
band_top level = 40 + 22 * min level 8

-- spans too narrow to be seen
abbrev pub hatch_marks : ℕ → List Mark
hatch_marks top = Rect 150 top 746 16 fill.Hatched ∷ Text 523 (top + 11) 9 Around words.Narrow ∷ []

-- the borders of a level's spans, or hatches if there are too many to be seen
abbrev pub spans_drawn : Page → ℕ → ℕ → List ℕ
spans_drawn page top width =
    if nat_lt (span_of page / 248) width then scale_drawn page (Band top) width else flat_map mark_text (hatch_marks top)

abbrev pub band_marks : ℕ → ℕ → ℕ → List Mark
band_marks top age width = Text 140 (top + 11) 8 Before (words.Level age width) ∷ Rect 150 top 746 16 fill.Paper ∷ []

-- a level of that age and that width: a band of its spans
abbrev pub band_drawn : Page → List Rung → Rung → List ℕ
band_drawn page rungs rung =
    let top = band_top (level_of rungs rung.0) in flat_map mark_text (band_marks top rung.0 rung.1) ++ spans_drawn page top rung.1

-- the title, the heading, the legend, the ticks, and the levels of a ladder
abbrev pub frame_drawn : Page → List ℕ → Policy → ℕ → List ℕ
frame_drawn page title policy count =
    head_drawn page title
    ++ (heading_drawn policy count ++ (legend_drawn ++ (foot_drawn page ++ flat_map (band_drawn page (rungs_of policy)) (rungs_of policy))))
