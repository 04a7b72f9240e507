-- A version that is tied to none.
use Rattle.std.proofs.Common.{◌≡◌, ℕ, Option, Some, None}
use Rattle.std.specs.List.{flat_map}
use Rattle.ele_forecast.specs.declared.forecast.Forecast.{Forecast}
use Rattle.ele_output.specs.Outlet.{Outlet, Puts}
use Rattle.ele_output.proofs.Known.{puts_nil}
use Rattle.ele_svg_marks.specs.Mark.{mark_text}
use Rattle.ele_svg_marks.specs.declared.page.Page.{Page}
use Rattle.ele_svg.specs.Rows.{tie_from}

-- a version that ties to none has no tie
pub no_tie : (a : Outlet) (page : Page) (number : ℕ) (ripe : Option ℕ) (other : Option Forecast) → other ≡ None → Puts a a (flat_map mark_text (tie_from page number ripe other))
no_tie a page number None other e = puts_nil a
no_tie a page number (Some ripe) None e = puts_nil a
no_tie a page number (Some ripe) (Some other) e = absurd cc
