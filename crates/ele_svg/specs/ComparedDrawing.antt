-- Who keeps the versions of a list, as a drawing: strips of all versions, of those that both keep, and of those that only one keeps.
use Rattle.std.specs.List.{flat_map, fold, range_with_len}
use Rattle.std.specs.Prelude.{List, None, Option, Some, codes, if◌then◌else◌, length, max, slice_get, sum_by, ℕ, ◌++◌, ◌+◌, ◌-◌, ◌==◌}
use Rattle.ele_against.specs.declared.compared.Compared.{Compared}
use Rattle.ele_forecast.specs.declared.forecast.Forecast.{Forecast}
use Rattle.ele_forecast_text.specs.declared.details.Details.{Details}
use Rattle.ele_svg.specs.ComparedKey.{compared_heading, compared_marks, compared_page, group_marks, group_stroke, group_top, group_words}
use Rattle.ele_svg.specs.Frame.{foot_drawn}
use Rattle.ele_svg.specs.Key.{strip_marks}
use Rattle.ele_svg.specs.Strips.{bar_height, bar_marks, bars_drawn, column_of}
use Rattle.ele_svg.specs.declared.compared.Group.{Group}
use Rattle.ele_svg.specs.declared.compared.Group.TheVariants.{Both, Here, There}
use Rattle.ele_svg_marks.specs.Head.{head_drawn}
use Rattle.ele_svg_marks.specs.Mark.{mark_text}
use Rattle.ele_svg_marks.specs.declared.mark.Words.TheVariants as words
use Rattle.ele_svg_marks.specs.declared.page.Page.{Page}

-- 1 for a version that closed in the column, and else 0
abbrev pub closed_in : Page → ℕ → Option Forecast → ℕ
closed_in page column None = 0
closed_in page column (Some told) = if column_of page told == column then 1 else 0

-- how many of the versions with these numbers closed in the column; a number tells its version's place
abbrev pub group_count : Page → List Forecast → ℕ → List ℕ → ℕ
group_count page forecasts column numbers = sum_by (λ number. closed_in page column (slice_get forecasts (number - 1))) numbers

-- the most of them in one of the 187 columns, and one at least
unfoldable pub group_most : Page → List Forecast → List ℕ → ℕ
group_most page forecasts numbers = fold (λ most column. max most (group_count page forecasts column numbers)) 1 (range_with_len 0 187)

abbrev pub group_bar : Page → Group → List Forecast → List ℕ → ℕ → List ℕ
group_bar page group forecasts numbers column =
    let height = bar_height (group_most page forecasts numbers) (group_count page forecasts column numbers) in
    flat_map mark_text (bar_marks (group_stroke group) (group_top group + 16) column height)

unfoldable pub group_bars : Page → Group → List Forecast → List ℕ → List ℕ
group_bars page group forecasts numbers = flat_map (group_bar page group forecasts numbers) (range_with_len 0 187)

abbrev pub group_drawn : Page → Group → Details → List Forecast → List ℕ → List ℕ
group_drawn page group details forecasts numbers =
    flat_map mark_text (group_marks group) ++ (group_words group details numbers ++ group_bars page group forecasts numbers)

abbrev pub groups_drawn : Page → Details → List Forecast → Compared → List ℕ
groups_drawn page details forecasts compared =
    group_drawn page Both details forecasts compared.both.numbers.items
    ++ (group_drawn page Here details forecasts compared.here.numbers.items
    ++ group_drawn page There details forecasts compared.there.numbers.items)

abbrev pub all_drawn : Page → List Forecast → List ℕ
all_drawn page forecasts = flat_map mark_text (strip_marks 66 words.Closings) ++ bars_drawn page 66 0 forecasts

abbrev pub compared_body : Page → Details → List Forecast → Compared → List ℕ
compared_body page details forecasts compared =
    all_drawn page forecasts ++ (groups_drawn page details forecasts compared ++ flat_map mark_text (compared_marks page compared.both.at))

-- the word says by what versions are kept here
abbrev pub compared_drawing : List ℕ → List ℕ → Details → List Forecast → Compared → List ℕ
compared_drawing title word details forecasts compared =
    let page = compared_page forecasts compared.both.at in
    head_drawn page title
    ++ (compared_heading word (length forecasts) (length compared.unknown.items)
    ++ (foot_drawn page ++ (compared_body page details forecasts compared ++ codes "</svg>\n")))
