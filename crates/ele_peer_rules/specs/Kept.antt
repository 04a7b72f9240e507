-- Which rows a rule keeps, and by what.
use Rattle.std.specs.Prelude.{◌≡◌, ℕ, zero, suc, ◌+◌, ◌==◌, List, [], ◌∷◌, length, Option, Some, None, replicate, if◌then◌else◌}
use Rattle.ele_lists.specs.Ends.{last_of}
use Rattle.ele_rule_parts.specs.declared.part.Limit.{Limit}
use Rattle.ele_rule_parts.specs.declared.part.Limit.TheVariants.{Number, All, Within, Ago, Begin}
use Rattle.ele_rule_parts.specs.declared.part.Part.{Part}
use Rattle.ele_rule_parts.specs.declared.reason.Reason.{Reason}
use Rattle.ele_rule_parts.specs.declared.row.Row.{Row}
use Rattle.ele_rule_parts.specs.declared.span.Span.{Span}
use Rattle.ele_rule_parts.specs.declared.span.Span.TheVariants.{Each, Second, Minute, Hour, Day, Week, Month, Year}
use Rattle.ele_rule_parts.specs.Spans.{rank_of_span}
use Rattle.ele_btrbk_rules.specs.Schedule.{IsScheduled}
use Rattle.ele_peer_rules.specs.declared.limit.Since.{Since}
use Rattle.ele_peer_rules.specs.declared.tool.Tool.{Tool}
use Rattle.ele_peer_rules.specs.declared.ways.Back.{Back}
use Rattle.ele_peer_rules.specs.declared.ways.Back.TheVariants.{FromNewest, FromNow}
use Rattle.ele_peer_rules.specs.declared.ways.Take.{Take}
use Rattle.ele_peer_rules.specs.declared.ways.Take.TheVariants.{Newest, First, Named}
use Rattle.ele_peer_rules.specs.declared.ways.Ways.{Ways}
use Rattle.ele_peer_rules.specs.Marks.{after_part}
use Rattle.ele_peer_rules.specs.Ways.{ways_of}

abbrev pub rank_within : Span → ℕ
rank_within Each = 0
rank_within Second = 9
rank_within Minute = 10
rank_within Hour = 11
rank_within Day = 12
rank_within Week = 13
rank_within Month = 14
rank_within Year = 15

-- 4 is the rank of days
abbrev pub rank_of_limit : Limit → Span → ℕ
rank_of_limit (Number n) span = 1 + rank_of_span span
rank_of_limit All span = 1 + rank_of_span span
rank_of_limit (Within reach) span = rank_within span
rank_of_limit (Begin n) span = if rank_of_span span == 4 then 16 else 17
rank_of_limit (Ago n) span = 1

-- a part's place in the order in which a tool takes them: all rows within a length of time, then numbers of rows from the
-- shortest span on, then the newest rows of spans within a length of time. In btrbk they take effect together; what is kept at
-- least has the rank of the last ones, and where spans begin follows
abbrev pub rank_of : Part → ℕ
rank_of part = rank_of_limit part.limit part.span

-- what keeps each row after the parts of one rank
abbrev pub after_rank : Ways → Since → ℕ → List Part → List Row → List (Option Reason) → List (Option Reason)
after_rank ways since rank [] rows marks = marks
after_rank ways since rank (part ∷ parts) rows marks =
    after_rank ways since rank parts rows (if rank_of part == rank then after_part ways since part rows marks else marks)

-- a tool that goes by names removes no rows but those that it named
abbrev pub after_others : Take → Ways → Since → List Row → List (Option Reason) → List (Option Reason)
after_others Newest ways since rows marks = marks
after_others First ways since rows marks = marks
after_others Named ways since rows marks = after_part ways since (record { span = Each; limit = All }) rows marks

-- what keeps each row after the parts of the first so many ranks, one rank after the other
abbrev pub after_ranks : Ways → Since → ℕ → List Part → List Row → List (Option Reason)
after_ranks ways since zero parts rows = after_others ways.take ways since rows (replicate (length rows) None)
after_ranks ways since (suc rank) parts rows = after_rank ways since rank parts rows (after_ranks ways since rank parts rows)

abbrev pub of_newest : Option Row → Since
of_newest None = record { moment = 0; month = 0 }
of_newest (Some row) = record { moment = row.moment; month = row.month }

abbrev pub of_now : ℕ → Since
of_now now = record { moment = now; month = 0 }

-- the moment from which a length of time reaches back: that of the newest row, or now
abbrev pub since_of : Back → ℕ → List Row → Since
since_of FromNewest now rows = of_newest (last_of rows)
since_of FromNow now rows = of_now now

-- what keeps each row, if something does
abbrev pub kept_by : Ways → List Part → ℕ → List Row → List (Option Reason)
kept_by ways parts now rows = after_ranks ways (since_of ways.back now rows) 16 parts rows

-- the same of a tool that has such ways, or btrbk's schedule
abbrev pub IsKeptBy : Option Ways → List Part → ℕ → List Row → List (Option Reason) → Type 0
IsKeptBy (Some ways) parts now rows marks = marks ≡ kept_by ways parts now rows
IsKeptBy None parts now rows marks = IsScheduled parts now rows marks

-- what keeps each row by a rule of the tool, if something does
abbrev pub IsKept : Tool → List Part → ℕ → List Row → List (Option Reason) → Type 0
IsKept tool parts now rows marks = IsKeptBy (ways_of tool) parts now rows marks
