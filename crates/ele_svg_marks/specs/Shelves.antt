-- The rows of the labels of the moments that are asked about, so that none touches another.
use Rattle.std.specs.Prelude.{Bool, if◌then◌else◌, max, min, nat_le, nat_lt, ℕ, ◌*◌, ◌+◌, ◌-◌, ◌||◌}
use Rattle.ele_forecast_text.specs.declared.staying.Staying.{Staying}
use Rattle.ele_svg_marks.specs.Calendar.{in_seconds}
use Rattle.ele_svg_marks.specs.Places.{x_of}
use Rattle.ele_svg_marks.specs.declared.labels.Shelf.{Shelf}
use Rattle.ele_svg_marks.specs.declared.labels.Shelves.{Shelves}
use Rattle.ele_svg_marks.specs.declared.mark.Mark.{Mark}
use Rattle.ele_svg_marks.specs.declared.mark.Mark.TheVariants.{Text}
use Rattle.ele_svg_marks.specs.declared.mark.Side.TheVariants.{Around}
use Rattle.ele_svg_marks.specs.declared.mark.Words.TheVariants as words
use Rattle.ele_svg_marks.specs.declared.page.Page.{Page}

-- a row without labels: each is before its first and behind its last
abbrev pub empty_shelf : Shelf
empty_shelf = record { first = 10000; last = 0 }

abbrev pub empty_shelves : Shelves
empty_shelves = record { upper = empty_shelf; middle = empty_shelf; lower = empty_shelf }

-- no label is wider than that
abbrev pub label_width : Page → ℕ
label_width page = if nat_lt page.last 864000 then 48 else 124

-- a label there touches none of a row: it stands before the first of them, or behind the last
abbrev pub is_free : ℕ → Shelf → ℕ → Bool
is_free width shelf x = nat_le shelf.last (x - width) || nat_le x (shelf.first - width)

-- a row with one more label
abbrev pub stretched : Shelf → ℕ → Shelf
stretched shelf x = record { first = min shelf.first x; last = max shelf.last x }

-- the first of three rows on which it touches none, and behind these if there is none
abbrev pub row_for : ℕ → Shelves → ℕ → ℕ
row_for width shelves x =
    if is_free width shelves.upper x then 0 else (if is_free width shelves.middle x then 1 else (if is_free width shelves.lower x then 2 else 3))

abbrev pub shelved_on : ℕ → Shelves → ℕ → Shelves
shelved_on row shelves x =
    if nat_lt row 1 then record shelves { upper = stretched shelves.upper x }
    else (if nat_lt row 2 then record shelves { middle = stretched shelves.middle x }
    else (if nat_lt row 3 then record shelves { lower = stretched shelves.lower x } else shelves))

abbrev pub shelved : Page → Shelves → Staying → Shelves
shelved page shelves staying = shelved_on (row_for (label_width page) shelves (x_of page staying.at)) shelves (x_of page staying.at)

abbrev pub label_mark : Page → ℕ → ℕ → Mark
label_mark page row at = Text (x_of page at) (page.foot + 26 + 12 * row) 10 Around (in_seconds page at (words.Stamp at))
