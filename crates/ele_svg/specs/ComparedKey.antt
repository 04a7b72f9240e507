-- What stands round the strips of a comparison: who keeps versions here and there, each group's place and words, and the moment.
use Rattle.std.specs.Prelude.{List, None, Option, Some, [], codes, decimal, length, max, slice_get, ℕ, ◌++◌, ◌+◌, ◌-◌, ◌∷◌}
use Rattle.ele_against.specs.ComparedTable.{bytes_part}
use Rattle.ele_forecast.specs.declared.forecast.Forecast.{Forecast}
use Rattle.ele_forecast_text.specs.Reach.{first_of}
use Rattle.ele_forecast_text.specs.declared.details.Details.{Details}
use Rattle.ele_svg.specs.declared.compared.Group.{Group}
use Rattle.ele_svg.specs.declared.compared.Group.TheVariants.{Both, Here, There}
use Rattle.ele_svg_marks.specs.Calendar.{in_seconds}
use Rattle.ele_svg_marks.specs.Escaped.{escaped}
use Rattle.ele_svg_marks.specs.Places.{x_of}
use Rattle.ele_svg_marks.specs.declared.mark.Fill.TheVariants as fill
use Rattle.ele_svg_marks.specs.declared.mark.Mark.{Mark}
use Rattle.ele_svg_marks.specs.declared.mark.Mark.TheVariants.{Line, Rect, Text}
use Rattle.ele_svg_marks.specs.declared.mark.Side.TheVariants.{Around}
use Rattle.ele_svg_marks.specs.declared.mark.Stroke.{Stroke}
use Rattle.ele_svg_marks.specs.declared.mark.Stroke.TheVariants as stroke
use Rattle.ele_svg_marks.specs.declared.mark.Words.TheVariants as words
use Rattle.ele_svg_marks.specs.declared.page.Page.{Page}

-- a moment, or the closing of a version if that is later
abbrev pub later_of : ℕ → Option Forecast → ℕ
later_of at None = at
later_of at (Some told) = max at told.closed

-- from the first closing to the last, or to the moment if that is later
abbrev pub compared_page : List Forecast → ℕ → Page
compared_page forecasts at =
    record {
      first = first_of forecasts;
      last = later_of at (slice_get forecasts (length forecasts - 1));
      top = 66;
      foot = 202;
      row = 0;
      labels = 1;
    }

-- how far from above a group begins, how its bars are drawn, and who keeps its versions
abbrev pub group_top : Group → ℕ
group_top Both = 90
group_top Here = 126
group_top There = 162

abbrev pub group_stroke : Group → Stroke
group_stroke Both = stroke.First
group_stroke Here = stroke.Third
group_stroke There = stroke.Second

abbrev pub group_keeper : Group → List ℕ
group_keeper Both = codes "by both"
group_keeper Here = codes "only here"
group_keeper There = codes "only there"

-- how the bars of a group are drawn, and their strip
abbrev pub group_marks : Group → List Mark
group_marks group =
    Line (104, group_top group + 24) (140, group_top group + 24) (group_stroke group)
    ∷ Rect 150 (group_top group + 16) 746 16 fill.Paper ∷ []

-- who keeps the versions, how many they are and, if versions have sizes, their bytes
abbrev pub group_words : Group → Details → List ℕ → List ℕ
group_words group details numbers =
    (codes "<text x='150' y='" ++ decimal (group_top group + 10))
    ++ (codes "' font-size='10'>kept " ++ (group_keeper group
    ++ ((codes ": " ++ decimal (length numbers)) ++ (bytes_part details numbers ++ codes "</text>\n"))))

-- how many versions there are, by what they are kept here, and how many labels of the other tool no version has
abbrev pub compared_heading : List ℕ → ℕ → ℕ → List ℕ
compared_heading word count unknown =
    (codes "<text x='20' y='37' font-size='11'>" ++ decimal count)
    ++ (codes " versions, kept here by " ++ (escaped word ++ (codes ", and there by another tool</text>\n"
    ++ ((codes "<text x='20' y='53' font-size='10'>bars: how many versions closed then; labels there that no version has: "
    ++ decimal unknown) ++ codes "</text>\n"))))

-- the moment at which they are kept here
abbrev pub compared_marks : Page → ℕ → List Mark
compared_marks page at =
    Line (x_of page at, page.top) (x_of page at, page.foot) stroke.Dashed
    ∷ Text (x_of page at) (page.foot + 26) 10 Around (in_seconds page at (words.Stamp at)) ∷ []
