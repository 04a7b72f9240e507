-- The bars of a group, column after column.
use Rattle.std.proofs.Common.{◌≡◌, ℕ, List, refl}
use Rattle.std.specs.List.{flat_map, fold, range_with_len}
use Rattle.std.specs.Prelude.{max}
use Rattle.ele_forecast.specs.declared.forecast.Forecast.{Forecast}
use Rattle.ele_svg.specs.ComparedDrawing.{group_bar, group_bars, group_count, group_most}
use Rattle.ele_svg.specs.declared.compared.Group.{Group}
use Rattle.ele_svg_marks.specs.declared.page.Page.{Page}

pub group_bars_are : (page : Page) (group : Group) (forecasts : List Forecast) (numbers : List ℕ)
    → group_bars page group forecasts numbers ≡ flat_map (group_bar page group forecasts numbers) (range_with_len 0 187)
unfolding group_bars
group_bars_are page group forecasts numbers = refl

pub group_most_is : (page : Page) (forecasts : List Forecast) (numbers : List ℕ)
    → fold (λ (most column : ℕ). max most (group_count page forecasts column numbers)) 1 (range_with_len 0 187) ≡ group_most page forecasts numbers
unfolding group_most
group_most_is page forecasts numbers = refl
