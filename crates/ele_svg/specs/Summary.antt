-- A forecast of many versions, or under several policies, as a drawing: what stays over time, and which versions pass each level.
use Rattle.std.specs.List.{flat_map, fold, range_with_len}
use Rattle.std.specs.Option.{option_map_or}
use Rattle.std.specs.Prelude.{List, [], codes, if◌then◌else◌, length, map, min, nat_lt, slice_get, ℕ, ◌*◌, ◌++◌, ◌+◌, ◌/◌, ◌<◌, ◌∷◌}
use Rattle.ele_forecast_forms.specs.declared.counts.Counts.{Counts}
use Rattle.ele_forecast_text.specs.Plan.{versions_of}
use Rattle.ele_forecast_text.specs.Reach.{first_of}
use Rattle.ele_forecast_text.specs.declared.plan.Plan.{Plan}
use Rattle.ele_forecast_text.specs.declared.staying.Staying.{Staying}
use Rattle.ele_policy.specs.Ladder.{Rung}
use Rattle.ele_svg.specs.Curve.{highest_of, points_drawn}
use Rattle.ele_svg.specs.Key.{curve_stroke, summary_frame}
use Rattle.ele_svg.specs.Notes.{newest_drawn, notes_drawn}
use Rattle.ele_svg.specs.Rows.{moment_drawn}
use Rattle.ele_svg.specs.Strips.{strips_drawn}
use Rattle.ele_svg.specs.declared.measure.Measure.{Measure}
use Rattle.ele_svg_marks.specs.Labels.{labels_drawn}
use Rattle.ele_svg_marks.specs.Mark.{glued, stroke_words}
use Rattle.ele_svg_marks.specs.Page.{label_rows, rungs_of}
use Rattle.ele_svg_marks.specs.Places.{last_drawn, span_of}
use Rattle.ele_svg_marks.specs.declared.page.Page.{Page}

abbrev pub curve_drawn : Page → ℕ → List Counts → ℕ → List ℕ
curve_drawn page highest rows place =
    glued (codes "<polyline fill='none' stroke='" ∷ stroke_words (curve_stroke place) ∷ codes "' points='" ∷ [])
    ++ (points_drawn page highest place rows ++ codes "'/>\n")

abbrev pub curves_drawn : Page → ℕ → List Counts → ℕ → List ℕ
curves_drawn page highest rows curves = flat_map (curve_drawn page highest rows) (range_with_len 0 curves)

-- the moments are those of the first policy, and the ladder that of a policy alone
abbrev pub moments_of : List Plan → List Staying
moments_of plans = option_map_or (λ plan. plan.stayings.items) (slice_get plans 0) []

abbrev pub ladder_of : List Plan → List Rung
ladder_of [] = []
ladder_of (plan ∷ []) = rungs_of plan.policy
ladder_of (plan ∷ next ∷ plans) = []

-- the last moment of a plan, and of the one before it
abbrev pub last_of_plan : ℕ → Plan → ℕ
last_of_plan first plan = last_drawn first plan.forecasts.items plan.stayings.items

abbrev pub summary_page : List Plan → Page
summary_page plans =
    let first = first_of (versions_of plans) in
    let top = 66 + 16 * min (length plans) 64 in
    record {
      first = first;
      last = fold last_of_plan first plans;
      top = top;
      foot = top + 254 + 22 * (length (ladder_of plans) + 1);
      row = 0;
      labels = label_rows (moments_of plans);
    }

-- a curve has 187 points, and this is the moment of each, from the first moment to the last
abbrev pub column_moment : Page → ℕ → ℕ
column_moment page column = page.first + span_of page * column / 186

abbrev pub moments_until : Page → ℕ → List ℕ
moments_until page columns = map (column_moment page) (range_with_len 0 columns)

abbrev pub column_moments : List Plan → List ℕ
column_moments plans = moments_until (summary_page plans) 187

-- the strips, the moments that are asked about, the curves, what is written beside moments, and the moments' labels
abbrev pub summary_body : Page → List Plan → List Counts → ℕ → List ℕ
summary_body page plans rows highest =
    strips_drawn page (ladder_of plans) (versions_of plans)
    ++ (flat_map (moment_drawn page) (moments_of plans) ++ (curves_drawn page highest rows (length plans)
    ++ (newest_drawn page (versions_of plans) ++ (notes_drawn page plans ++ labels_drawn page (moments_of plans)))))

abbrev pub summary_text : Measure → List ℕ → List Plan → List Counts → List ℕ
summary_text measure title plans rows =
    let page = summary_page plans in
    let highest = highest_of rows in
    summary_frame page measure title plans highest ++ (summary_body page plans rows highest ++ codes "</svg>\n")
