-- What stands round the curves and the strips: the title, the policies, the ticks, the axis, and the frames of strips.
use Rattle.std.specs.List.{flat_map, range_with_len}
use Rattle.std.specs.Prelude.{List, [], codes, decimal, if◌then◌else◌, length, min, nat_le, nat_lt, suc, zero, ℕ, ◌%◌, ◌*◌, ◌++◌, ◌+◌, ◌-◌, ◌/◌, ◌<◌, ◌∷◌}
use Rattle.ele_forecast_text.specs.Plan.{versions_of}
use Rattle.ele_forecast_text.specs.declared.plan.Plan.{Plan}
use Rattle.ele_svg.specs.Curve.{curve_y}
use Rattle.ele_svg.specs.declared.measure.Measure.{Measure}
use Rattle.ele_svg.specs.declared.measure.Measure.TheVariants.{Versions, Bytes}
use Rattle.ele_svg.specs.Frame.{foot_drawn}
use Rattle.ele_svg_marks.specs.Head.{head_drawn, policy_name}
use Rattle.ele_svg_marks.specs.Mark.{mark_text}
use Rattle.ele_svg_marks.specs.Walk.{walked}
use Rattle.ele_svg_marks.specs.declared.mark.Fill.TheVariants as fill
use Rattle.ele_svg_marks.specs.declared.mark.Mark.{Mark}
use Rattle.ele_svg_marks.specs.declared.mark.Mark.TheVariants.{Line, Rect, Text}
use Rattle.ele_svg_marks.specs.declared.mark.Side.TheVariants.{Before, Behind}
use Rattle.ele_svg_marks.specs.declared.mark.Stroke.{Stroke}
use Rattle.ele_svg_marks.specs.declared.mark.Stroke.TheVariants as stroke
use Rattle.ele_svg_marks.specs.declared.mark.Words.{Words}
use Rattle.ele_svg_marks.specs.declared.mark.Words.TheVariants as words
use Rattle.ele_svg_marks.specs.declared.page.Page.{Page}

-- the policies' curves, in their order
abbrev pub curve_stroke : ℕ → Stroke
curve_stroke place =
    if nat_lt (place % 4) 1 then stroke.First else (if nat_lt (place % 4) 2 then stroke.Second else (if nat_lt (place % 4) 3 then stroke.Third else stroke.Fourth))

-- each curve's line and policy
abbrev pub key_y : ℕ → ℕ
key_y place = 50 + 16 * min place 64

abbrev pub key_drawn : ℕ → Plan → List ℕ
key_drawn place plan =
    flat_map mark_text (Line (20, key_y place) (54, key_y place) (curve_stroke place) ∷ [])
    ++ ((codes "<text x='58' y='" ++ decimal (key_y place + 4)) ++ (codes "' font-size='11'>" ++ (policy_name plan.policy ++ codes "</text>\n")))

abbrev pub place_after : ℕ → Plan → ℕ
place_after place plan = place + 1

abbrev pub keys_drawn : List Plan → List ℕ
keys_drawn plans = walked key_drawn place_after 0 plans

-- how far apart the lines of the axis are: 1, 2 or 5, or ten times what they are of a tenth, so that up to seven lines are drawn
abbrev pub step_in : ℕ → ℕ → ℕ
step_in zero highest = 1
step_in (suc tries) highest =
    if nat_le highest 5 then 1 else (if nat_le highest 10 then 2 else (if nat_le highest 25 then 5 else 10 * step_in tries (highest / 10)))

abbrev pub axis_step : ℕ → ℕ
axis_step highest = step_in 20 highest

-- what a curve measures, in words
abbrev pub axis_name : Measure → Words
axis_name Versions = words.VersionsAxis
axis_name Bytes = words.BytesAxis

abbrev pub amount_words : Measure → ℕ → Words
amount_words Versions amount = words.Count amount
amount_words Bytes amount = words.Bytes amount

abbrev pub axis_marks : ℕ → Words → List Mark
axis_marks y said = Line (150, y) (896, y) stroke.Grid ∷ Text 144 (y + 3) 9 Before said ∷ []

abbrev pub axis_line : Page → Measure → ℕ → ℕ → List Mark
axis_line page measure highest amount = axis_marks (curve_y page highest amount) (amount_words measure amount)

abbrev pub axis_at : Page → Measure → ℕ → ℕ → List ℕ
axis_at page measure highest k = flat_map mark_text (axis_line page measure highest (k * axis_step highest))

-- so many lines of the axis, one at each multiple of its step
abbrev pub axis_until : Page → Measure → ℕ → ℕ → List ℕ
axis_until page measure highest lines = flat_map (axis_at page measure highest) (range_with_len 0 lines)

-- what the axis counts, and what the bars of strips mean
abbrev pub axis_words : Page → Measure → List Mark
axis_words page measure = Text 150 (page.top - 4) 9 Behind (axis_name measure) ∷ Text 150 (page.top + 250) 8 Behind words.Bars ∷ []

-- these words, and the lines up to the most
abbrev pub axis_drawn : Page → Measure → ℕ → List ℕ
axis_drawn page measure highest =
    flat_map mark_text (axis_words page measure) ++ axis_until page measure highest (min (highest / axis_step highest) 9 + 1)

abbrev pub strip_marks : ℕ → Words → List Mark
strip_marks top said = Text 140 (top + 11) 8 Before said ∷ Rect 150 top 746 16 fill.Paper ∷ []

-- how far from above the strip of a level begins
abbrev pub strip_top : Page → ℕ → ℕ
strip_top page level = page.top + 254 + 22 * min level 8

abbrev pub summary_heading : ℕ → List ℕ
summary_heading count = (codes "<text x='20' y='37' font-size='11'>" ++ decimal count) ++ codes " versions, and what stays over time</text>\n"

-- the title, the policies, the ticks and the axis
abbrev pub summary_frame : Page → Measure → List ℕ → List Plan → ℕ → List ℕ
summary_frame page measure title plans highest =
    head_drawn page title ++ (summary_heading (length (versions_of plans)) ++ (keys_drawn plans ++ (foot_drawn page ++ axis_drawn page measure highest)))
