-- The bars, squares and texts of a row, in pixels.
use Rattle.std.specs.Prelude.{max, ℕ, ◌+◌, ◌-◌, ◌/◌}
use Rattle.ele_svg_marks.specs.declared.mark.Fill.{Fill}
use Rattle.ele_svg_marks.specs.declared.mark.Fill.TheVariants as fill
use Rattle.ele_svg_marks.specs.declared.mark.Mark.{Mark}
use Rattle.ele_svg_marks.specs.declared.mark.Mark.TheVariants.{Rect, Text}
use Rattle.ele_svg_marks.specs.declared.mark.Side.{Side}
use Rattle.ele_svg_marks.specs.declared.mark.Words.{Words}
use Rattle.ele_svg_marks.specs.declared.page.Page.{Page}

-- a bar from one moment's place to another's, a third of its row high and seen even where both are one
abbrev pub bar_of : Page → ℕ → ℕ → ℕ → Fill → Mark
bar_of page y from to color = Rect from (y - page.row / 6) (max (to - from) 1) (page.row / 3) color

-- a thin bar from there to the right edge, and none behind it
abbrev pub due_bar_of : Page → ℕ → ℕ → Mark
due_bar_of page y from = Rect from (y - page.row / 12) (896 - from) (page.row / 6) fill.Due

-- a square with that middle, half as high as a row
abbrev pub square_of : Page → ℕ → ℕ → Fill → Mark
square_of page x y color = Rect (x - page.row / 4) (y - page.row / 4) (page.row / 2) (page.row / 2) color

-- a text beside a row
abbrev pub beside_of : Page → ℕ → ℕ → Side → Words → Mark
beside_of page x y side words = Text x (y + page.row / 6) (page.row / 2 + 2) side words
