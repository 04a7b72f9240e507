-- The points of a curve: how many versions stay over time.
use Rattle.std.specs.List.{flat_map, fold}
use Rattle.std.specs.Option.{option_map_or}
use Rattle.std.specs.Prelude.{List, [], codes, decimal, max, min, slice_get, ℕ, ◌*◌, ◌+◌, ◌-◌, ◌/◌, ◌∷◌}
use Rattle.ele_forecast_forms.specs.declared.counts.Counts.{Counts}
use Rattle.ele_svg_marks.specs.Mark.{glued}
use Rattle.ele_svg_marks.specs.Places.{x_of}
use Rattle.ele_svg_marks.specs.declared.page.Page.{Page}

-- the most that stay at any point under any of the policies, and one at least
abbrev pub highest_at : ℕ → Counts → ℕ
highest_at highest row = fold max highest row.counts.items

abbrev pub highest_of : List Counts → ℕ
highest_of rows = fold highest_at 1 rows

-- how many stay under the policy at that place
abbrev pub count_of : ℕ → Counts → ℕ
count_of place row = option_map_or (λ count. count) (slice_get row.counts.items place) 0

-- how far from above a curve is at so many: the most are at the top, and none are 240 pixels below
abbrev pub curve_y : Page → ℕ → ℕ → ℕ
curve_y page highest count = page.top + 240 - min (count * 240 / highest) 240

-- a point stands at the place of its moment
abbrev pub point_text : Page → ℕ → ℕ → Counts → List ℕ
point_text page highest place row =
    glued (decimal (x_of page row.at) ∷ codes "," ∷ decimal (curve_y page highest (count_of place row)) ∷ codes " " ∷ [])

abbrev pub points_drawn : Page → ℕ → ℕ → List Counts → List ℕ
points_drawn page highest place rows = flat_map (point_text page highest place) rows
