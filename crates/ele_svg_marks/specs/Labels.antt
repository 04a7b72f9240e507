-- The labels of the moments that are asked about.
use Rattle.std.specs.List.{flat_map}
use Rattle.std.specs.Prelude.{List, [], if◌then◌else◌, nat_lt, ℕ, ◌∷◌}
use Rattle.ele_forecast_text.specs.declared.staying.Staying.{Staying}
use Rattle.ele_svg_marks.specs.Mark.{mark_text}
use Rattle.ele_svg_marks.specs.Places.{x_of}
use Rattle.ele_svg_marks.specs.Shelves.{empty_shelves, label_mark, label_width, row_for, shelved}
use Rattle.ele_svg_marks.specs.Walk.{walked}
use Rattle.ele_svg_marks.specs.declared.labels.Shelves.{Shelves}
use Rattle.ele_svg_marks.specs.declared.mark.Mark.{Mark}
use Rattle.ele_svg_marks.specs.declared.page.Page.{Page}

-- a label on its row; one for which there is none is left out
abbrev pub label_marks : Page → ℕ → ℕ → List Mark
label_marks page row at = if nat_lt row 3 then label_mark page row at ∷ [] else []

abbrev pub label_drawn : Page → Shelves → Staying → List ℕ
label_drawn page shelves staying = flat_map mark_text (label_marks page (row_for (label_width page) shelves (x_of page staying.at)) staying.at)

abbrev pub labels_drawn : Page → List Staying → List ℕ
labels_drawn page stayings = walked (label_drawn page) (shelved page) empty_shelves stayings
