-- Which rows are the first of an hour, which of these the first of a day, and so on.
use Rattle.std.specs.Prelude.{ℕ, suc, ◌==◌, Bool, true, not, List, [], ◌∷◌, length, replicate, Option, Some, None, if◌then◌else◌}
use Rattle.ele_rule_parts.specs.declared.row.Row.{Row}
use Rattle.ele_rule_parts.specs.declared.span.Span.TheVariants.{Hour, Day, Week, Month, Year}
use Rattle.ele_btrbk_rules.specs.declared.begins.Begins.{Begins}
use Rattle.ele_btrbk_rules.specs.Numbers.{number_of}

-- the span isn't that of the row before, if there is one
abbrev pub is_new : Option ℕ → ℕ → Bool
is_new None number = true
is_new (Some last) number = not (last == number)

-- of the rows of one depth, those that lie in another span than the one before them of that depth get a depth more
abbrev pub deepened : ℕ → (Row → ℕ) → Option ℕ → List Row → List ℕ → List ℕ
deepened depth number last [] depths = []
deepened depth number last (row ∷ rows) [] = []
deepened depth number last (row ∷ rows) (deep ∷ depths) =
    if deep == depth
    then (if is_new last (number row) then suc depth else depth) ∷ deepened depth number (Some (number row)) rows depths
    else deep ∷ deepened depth number last rows depths

-- of how many of an hour, a day, a week, a month and a year each row is the first: the first rows of hours are sought among all,
-- those of days among the first of hours, those of weeks among the first of days, and so on
abbrev pub depths_of : Begins → List Row → List ℕ
depths_of begins rows =
    deepened 4 (number_of begins Year) None rows
    (deepened 3 (number_of begins Month) None rows
    (deepened 2 (number_of begins Week) None rows
    (deepened 1 (number_of begins Day) None rows
    (deepened 0 (number_of begins Hour) None rows (replicate (length rows) 0)))))
