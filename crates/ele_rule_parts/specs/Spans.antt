-- Which rows a part of a rule takes of a span: the newest, the first, or those of a kind.
use Rattle.std.specs.Prelude.{ℕ, ◌+◌, ◌/◌, ◌==◌, Bool, true, false, not, List, [], ◌∷◌, Option, Some, None}
use Rattle.ele_rule_parts.specs.declared.row.Row.{Row}
use Rattle.ele_rule_parts.specs.declared.span.Span.{Span}
use Rattle.ele_rule_parts.specs.declared.span.Span.TheVariants.{Each, Second, Minute, Hour, Day, Week, Month, Year}

-- two rows lie in one span by the clock of each; a week begins on Monday, and 1970-01-01 was a Thursday
abbrev pub same_span : Span → Row → Row → Bool
same_span Each a b = false
same_span Second a b = a.local == b.local
same_span Minute a b = a.local / 60 == b.local / 60
same_span Hour a b = a.local / 3600 == b.local / 3600
same_span Day a b = a.local / 86400 == b.local / 86400
same_span Week a b = (a.local / 86400 + 3) / 7 == (b.local / 86400 + 3) / 7
same_span Month a b = a.month == b.month
same_span Year a b = a.month / 12 == b.month / 12

-- the next newer row, if there is one, lies in another span
abbrev pub is_newest : Span → Row → List Row → Bool
is_newest span row [] = true
is_newest span row (next ∷ newer) = not (same_span span row next)

-- the row before it, if there is one, lies in another span
abbrev pub is_first : Span → Option Row → Row → Bool
is_first span None row = true
is_first span (Some before) row = not (same_span span before row)

abbrev pub rank_of_span : Span → ℕ
rank_of_span Each = 0
rank_of_span Second = 1
rank_of_span Minute = 2
rank_of_span Hour = 3
rank_of_span Day = 4
rank_of_span Week = 5
rank_of_span Month = 6
rank_of_span Year = 7

-- its name tells the span
abbrev pub is_of : Span → Row → Bool
is_of span row = rank_of_span row.kind == rank_of_span span
