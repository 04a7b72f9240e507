-- The bars of a strip, column after column.
use Rattle.std.proofs.Common.{◌≡◌, ℕ, ◌-◌, List, refl}
use Rattle.std.specs.List.{flat_map, fold, range_with_len}
use Rattle.std.specs.Prelude.{max}
use Rattle.ele_forecast.specs.declared.forecast.Forecast.{Forecast}
use Rattle.ele_svg.specs.Strips.{bar_in, bars_drawn, count_in, most_in}
use Rattle.ele_svg_marks.specs.declared.page.Page.{Page}

pub bars_are : (page : Page) (top level : ℕ) (forecasts : List Forecast) → bars_drawn page top level forecasts ≡ flat_map (bar_in page top level forecasts) (range_with_len 0 187)
unfolding bars_drawn
bars_are page top level forecasts = refl

pub most_is : (page : Page) (level : ℕ) (forecasts : List Forecast) → fold (λ (most column : ℕ). max most (count_in page level column forecasts)) 1 (range_with_len 0 187) ≡ most_in page level forecasts
unfolding most_in
most_is page level forecasts = refl
