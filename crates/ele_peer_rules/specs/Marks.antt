-- What one part of a rule keeps, of rows in order of time, beside what the parts before it keep.
use Rattle.std.specs.Prelude.{ℕ, ◌+◌, ◌*◌, nat_le, nat_lt, Bool, true, false, ◌&&◌, ◌||◌, List, [], ◌∷◌, Option, Some, None, if◌then◌else◌}
use Rattle.ele_rule_parts.specs.Spans.{is_first, is_newest, is_of}
use Rattle.ele_rule_parts.specs.declared.part.Limit.{Limit}
use Rattle.ele_rule_parts.specs.declared.part.Limit.TheVariants.{Number, All, Within, Ago, Begin}
use Rattle.ele_rule_parts.specs.declared.part.Part.{Part}
use Rattle.ele_rule_parts.specs.declared.reason.By.{By}
use Rattle.ele_rule_parts.specs.declared.reason.By.TheVariants.{Count, Age, Oldest, Other}
use Rattle.ele_rule_parts.specs.declared.reason.Reason.{Reason}
use Rattle.ele_rule_parts.specs.declared.row.Row.{Row}
use Rattle.ele_rule_parts.specs.declared.span.Span.{Span}
use Rattle.ele_rule_parts.specs.declared.span.Span.TheVariants.{Each, Second, Minute, Hour, Day, Week, Month, Year}
use Rattle.ele_peer_rules.specs.declared.limit.Since.{Since}
use Rattle.ele_peer_rules.specs.declared.ways.OldestKept.{OldestKept}
use Rattle.ele_peer_rules.specs.declared.ways.OldestKept.TheVariants.{Always, ByNumber, Never}
use Rattle.ele_peer_rules.specs.declared.ways.Take.{Take}
use Rattle.ele_peer_rules.specs.declared.ways.Take.TheVariants.{Newest, First, Named}
use Rattle.ele_peer_rules.specs.declared.ways.Ways.{Ways}
use Rattle.ele_peer_rules.specs.Within.{is_within}

-- which rows a part takes
abbrev pub takes_by : Take → Span → Option Row → Row → List Row → Bool
takes_by Newest span before row newer = is_newest span row newer
takes_by First span before row newer = is_first span before row
takes_by Named span before row newer = is_of span row

abbrev pub takes : Ways → Span → Option Row → Row → List Row → Bool
takes ways span before row newer = takes_by ways.take span before row newer

abbrev pub is_number : Limit → Bool
is_number (Number n) = true
is_number All = false
is_number (Within reach) = false
is_number (Ago n) = false
is_number (Begin n) = false

-- whether a part with the limit keeps the oldest row of all too, while it may keep more
abbrev pub keeps_oldest : OldestKept → Limit → Bool
keeps_oldest Always limit = true
keeps_oldest ByNumber limit = is_number limit
keeps_oldest Never limit = false

-- no row is before it
abbrev pub is_oldest : Option Row → Bool
is_oldest None = true
is_oldest (Some before) = false

-- nothing keeps the row yet
abbrev pub is_free : Option Reason → Bool
is_free None = true
is_free (Some reason) = false

-- 1 for a row that the part counts, if it takes it, else 0
abbrev pub counts : Ways → Bool → Option Reason → ℕ
counts ways taken mark = if taken && (ways.counts_kept || is_free mark) then 1 else 0

-- how many rows it counts, of those after a row
abbrev pub count : Ways → Span → Option Row → List Row → List (Option Reason) → ℕ
count ways span before [] marks = 0
count ways span before (row ∷ newer) [] = 0
count ways span before (row ∷ newer) (mark ∷ marks) =
    count ways span (Some row) newer marks + counts ways (takes ways span before row newer) mark

-- it keeps a row if so many newer ones are counted
abbrev pub is_allowed : Limit → Since → ℕ → Row → Bool
is_allowed (Number n) since counted row = nat_lt counted n
is_allowed All since counted row = true
is_allowed (Within reach) since counted row = is_within reach since row
is_allowed (Ago n) since counted row = false
is_allowed (Begin n) since counted row = false

-- the seconds of sanoid's periods: a month is 31 days, a year 365.25 days, and `frequently` is each 15 minutes
abbrev pub period : Span → ℕ
period Each = 0
period Second = 0
period Minute = 900
period Hour = 3600
period Day = 86400
period Week = 604800
period Month = 2678400
period Year = 31557600

-- the row isn't older than so many periods
abbrev pub is_young : Limit → Span → Since → Row → Bool
is_young (Number n) span since row = nat_le since.moment (row.moment + n * period span)
is_young All span since row = false
is_young (Within reach) span since row = false
is_young (Ago n) span since row = false
is_young (Begin n) span since row = false

-- it is kept then too by a tool that goes by names
abbrev pub stays_young : Take → Part → Since → Row → Bool
stays_young Newest part since row = false
stays_young First part since row = false
stays_young Named part since row = is_young part.limit part.span since row

abbrev pub by_limit : Limit → By
by_limit (Number n) = Count
by_limit All = Count
by_limit (Within reach) = Age
by_limit (Ago n) = Age
by_limit (Begin n) = Age

-- the rows of no name are other ones
abbrev pub by_name : Span → Limit → By
by_name Each limit = Other
by_name Second limit = by_limit limit
by_name Minute limit = by_limit limit
by_name Hour limit = by_limit limit
by_name Day limit = by_limit limit
by_name Week limit = by_limit limit
by_name Month limit = by_limit limit
by_name Year limit = by_limit limit

abbrev pub by_take : Take → Part → By
by_take Newest part = by_limit part.limit
by_take First part = by_limit part.limit
by_take Named part = by_name part.span part.limit

-- by what a part keeps a row, which it may take, and may allow by its limit
abbrev pub by_of : Take → Part → Bool → Bool → By
by_of take part false allowed = Oldest
by_of take part true false = Age
by_of take part true true = by_take take part

-- what keeps the row after the part: what kept it before, or the part, if it takes the row or the row is the oldest of all
abbrev pub marked : Ways → Since → Part → Bool → Bool → ℕ → Row → Option Reason → Option Reason
marked ways since part oldest taken counted row (Some reason) = Some reason
marked ways since part oldest taken counted row None =
    if (taken || (oldest && keeps_oldest ways.oldest part.limit)) && (is_allowed part.limit since counted row || stays_young ways.take part since row)
    then Some (record { span = part.span; by = by_of ways.take part taken (is_allowed part.limit since counted row); number = counted + 1 }) else None

-- the same of each row and those after it; the row before the first may be none
abbrev pub after_from : Ways → Since → Part → Option Row → List Row → List (Option Reason) → List (Option Reason)
after_from ways since part before [] marks = marks
after_from ways since part before (row ∷ newer) [] = []
after_from ways since part before (row ∷ newer) (mark ∷ marks) =
    marked ways since part (is_oldest before) (takes ways part.span before row newer) (count ways part.span (Some row) newer marks) row mark
    ∷ after_from ways since part (Some row) newer marks

-- the same of all rows
abbrev pub after_part : Ways → Since → Part → List Row → List (Option Reason) → List (Option Reason)
after_part ways since part rows marks = after_from ways since part None rows marks
