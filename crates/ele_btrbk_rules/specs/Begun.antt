-- Which spans were begun last, row by row. No public clause cites this module.
use Rattle.std.specs.Prelude.{ℕ, nat_le, Bool, true, false, List, [], ◌∷◌, Option, Some, None, if◌then◌else◌}
use Rattle.ele_rule_parts.specs.declared.row.Row.{Row}
use Rattle.ele_rule_parts.specs.declared.span.Span.TheVariants.{Hour, Day, Week, Month, Year}
use Rattle.ele_btrbk_rules.specs.declared.begins.Begins.{Begins}
use Rattle.ele_btrbk_rules.specs.declared.begun.Begun.{Begun}
use Rattle.ele_btrbk_rules.specs.Firsts.{is_new}
use Rattle.ele_btrbk_rules.specs.Numbers.{number_of}

abbrev pub none_begun : Begun
none_begun = record { hour = None; day = None; week = None; month = None; year = None }

-- of how many spans the row is the first, after those that were begun last
abbrev pub depth : Begins → Begun → Row → ℕ
depth begins begun row =
    if is_new begun.hour (number_of begins Hour row)
    then (if is_new begun.day (number_of begins Day row)
    then (if is_new begun.week (number_of begins Week row)
    then (if is_new begun.month (number_of begins Month row)
    then (if is_new begun.year (number_of begins Year row) then 5 else 4) else 3) else 2) else 1) else 0

-- the span that is begun last after a row, if the row is the first of it
abbrev pub begun_if : Bool → ℕ → Option ℕ → Option ℕ
begun_if true number last = Some number
begun_if false number last = last

abbrev pub begun_after : Begins → Begun → ℕ → Row → Begun
begun_after begins begun deep row = record {
  hour = begun_if (nat_le 1 deep) (number_of begins Hour row) begun.hour;
  day = begun_if (nat_le 2 deep) (number_of begins Day row) begun.day;
  week = begun_if (nat_le 3 deep) (number_of begins Week row) begun.week;
  month = begun_if (nat_le 4 deep) (number_of begins Month row) begun.month;
  year = begun_if (nat_le 5 deep) (number_of begins Year row) begun.year;
}

-- the same of each row, the oldest first
abbrev pub depths_from : Begins → Begun → List Row → List ℕ
depths_from begins begun [] = []
depths_from begins begun (row ∷ rows) =
    depth begins begun row ∷ depths_from begins (begun_after begins begun (depth begins begun row) row) rows
