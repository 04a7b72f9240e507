-- The numbers of the hours, days, weeks, months and years in which rows lie, as btrbk begins them, by the clock of each row.
use Rattle.std.specs.Prelude.{ℕ, ◌+◌, ◌-◌, ◌/◌, ◌%◌, ◌==◌, nat_lt, List, [], ◌∷◌, Option, Some, None, unwrap_or, if◌then◌else◌}
use Rattle.ele_rule_parts.specs.declared.part.Limit.{Limit}
use Rattle.ele_rule_parts.specs.declared.part.Limit.TheVariants.{Number, All, Within, Ago, Begin}
use Rattle.ele_rule_parts.specs.declared.part.Part.{Part}
use Rattle.ele_rule_parts.specs.declared.row.Row.{Row}
use Rattle.ele_rule_parts.specs.declared.span.Span.{Span}
use Rattle.ele_rule_parts.specs.declared.span.Span.TheVariants.{Each, Second, Minute, Hour, Day, Week, Month, Year}
use Rattle.ele_rule_parts.specs.Months.{month_start}
use Rattle.ele_rule_parts.specs.Spans.{rank_of_span}
use Rattle.ele_btrbk_rules.specs.declared.begins.Begins.{Begins}

abbrev pub begin_in : Limit → Option ℕ
begin_in (Number n) = None
begin_in All = None
begin_in (Within reach) = None
begin_in (Ago n) = None
begin_in (Begin n) = Some n

-- where an option lets the spans of a kind begin
abbrev pub begin_by : Span → Part → Option ℕ
begin_by span part = if rank_of_span part.span == rank_of_span span then begin_in part.limit else None

-- the first option that does, or 0
abbrev pub begin_of : Span → List Part → ℕ
begin_of span [] = 0
begin_of span (part ∷ parts) = unwrap_or (begin_by span part) (begin_of span parts)

-- the hour at which days begin, and the day on which weeks do; 0 is midnight, and Sunday
abbrev pub begins_of : List Part → Begins
begins_of parts = record { hour = begin_of Day parts; weekday = begin_of Week parts }

-- the hours that the row's clock shows since 1970 began
abbrev pub hour_of : Row → ℕ
hour_of row = row.local / 3600

-- its day, counted from that of 1970-01-01, which is 1, a Thursday
abbrev pub day_of : Begins → Row → ℕ
day_of begins row = (hour_of row + 24 - begins.hour) / 24

abbrev pub week_of : Begins → Row → ℕ
week_of begins row = (day_of begins row + 10 - begins.weekday) / 7

-- the days since its week began
abbrev pub into_week : Begins → Row → ℕ
into_week begins row = (day_of begins row + 10 - begins.weekday) % 7

-- its month, which begins with the first week that begins in it
abbrev pub month_of : Begins → Row → ℕ
month_of begins row = row.month - (if nat_lt (row.local / 86400 - month_start row.month) (into_week begins row) then 1 else 0)

-- the number of the span of that kind in which the row lies
abbrev pub number_of : Begins → Span → Row → ℕ
number_of begins Each row = 0
number_of begins Second row = 0
number_of begins Minute row = 0
number_of begins Hour row = hour_of row
number_of begins Day row = day_of begins row
number_of begins Week row = week_of begins row
number_of begins Month row = month_of begins row
number_of begins Year row = month_of begins row / 12

-- now lies in the month and the year of the calendar
abbrev pub number_now : Begins → Span → Row → ℕ
number_now begins Each now = 0
number_now begins Second now = 0
number_now begins Minute now = 0
number_now begins Hour now = hour_of now
number_now begins Day now = day_of begins now
number_now begins Week now = week_of begins now
number_now begins Month now = now.month
number_now begins Year now = now.month / 12

-- how many spans ago the row lies
abbrev pub ago : Begins → Span → Row → Row → ℕ
ago begins span now row = number_now begins span now - number_of begins span row
