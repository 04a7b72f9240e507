-- Where a drawing has its moments and its rows, in pixels from the left and from above.
use Rattle.std.specs.List.{fold}
use Rattle.std.specs.Prelude.{List, None, Option, Some, length, max, min, ℕ, ◌*◌, ◌+◌, ◌-◌, ◌/◌}
use Rattle.ele_forecast.specs.declared.forecast.Forecast.{Forecast}
use Rattle.ele_forecast_text.specs.Reach.{first_of, last_of}
use Rattle.ele_forecast_text.specs.declared.staying.Staying.{Staying}
use Rattle.ele_policy.specs.declared.policy.Policy.{Policy}
use Rattle.ele_svg_marks.specs.Page.{label_rows, row_height, rungs_of}
use Rattle.ele_svg_marks.specs.declared.page.Page.{Page}

abbrev pub span_of : Page → ℕ
span_of page = page.last - page.first

-- where a moment stands: the first at 150, and the last just before 896
abbrev pub x_of : Page → ℕ → ℕ
x_of page moment = 150 + min (moment - page.first) (span_of page) * 746 / (span_of page + 1)

-- where that moment stands, or behind all if there is none
abbrev pub x_or : Page → Option ℕ → ℕ
x_or page None = 910
x_or page (Some moment) = x_of page moment

-- the middle of the row of the version of that number
abbrev pub y_of : Page → ℕ → ℕ
y_of page number = page.top + page.row * min number 2000

-- the last moment of these, or the one before them if that is later
abbrev pub last_drawn : ℕ → List Forecast → List Staying → ℕ
last_drawn first forecasts stayings = fold (λ last staying. max last staying.at) (last_of first forecasts) stayings

-- a page with a row for each version
abbrev pub page_of : Policy → List Forecast → List Staying → Page
page_of policy forecasts stayings =
    let first = first_of forecasts in
    let row = row_height (length forecasts) in
    let top = 66 + 22 * length (rungs_of policy) in
    record {
      first = first;
      last = last_drawn first forecasts stayings;
      top = top;
      foot = top + row * (min (length forecasts) 2000 + 1);
      row = row;
      labels = label_rows stayings;
    }
