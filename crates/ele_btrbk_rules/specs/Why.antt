-- What keeps a row in btrbk.
use Rattle.std.specs.Prelude.{ℕ, ◌==◌, nat_le, nat_lt, Bool, true, false, ◌&&◌, List, [], ◌∷◌, Option, Some, None, if◌then◌else◌}
use Rattle.std.specs.Option.{option_or}
use Rattle.std.specs.List.{list_any}
use Rattle.ele_rule_parts.specs.declared.part.Limit.{Limit}
use Rattle.ele_rule_parts.specs.declared.part.Limit.TheVariants.{Number, All, Within, Ago, Begin}
use Rattle.ele_rule_parts.specs.declared.part.Part.{Part}
use Rattle.ele_rule_parts.specs.declared.reason.By.TheVariants.{Count, Age}
use Rattle.ele_rule_parts.specs.declared.reason.Reason.{Reason}
use Rattle.ele_rule_parts.specs.declared.row.Row.{Row}
use Rattle.ele_rule_parts.specs.declared.span.Span.{Span}
use Rattle.ele_rule_parts.specs.declared.span.Span.TheVariants.{Hour, Day, Week, Month, Year}
use Rattle.ele_rule_parts.specs.Spans.{rank_of_span}
use Rattle.ele_btrbk_rules.specs.declared.begins.Begins.{Begins}
use Rattle.ele_btrbk_rules.specs.Numbers.{ago}

-- a number of spans, of which 0 is none, or all
abbrev pub reaches : Limit → ℕ → Bool
reaches (Number n) spans = nat_lt 0 n && nat_le spans n
reaches All spans = true
reaches (Within reach) spans = false
reaches (Ago n) spans = false
reaches (Begin n) spans = false

-- an option keeps the first row of a span so many spans ago
abbrev pub keeps : Span → ℕ → Part → Bool
keeps span spans part = (rank_of_span part.span == rank_of_span span) && reaches part.limit spans

-- what keeps the first row of a span, if it is one
abbrev pub by_first : Bool → Span → ℕ → List Part → Option Reason
by_first first span spans parts =
    if first && list_any (keeps span spans) parts then Some (record { span = span; by = Count; number = spans }) else None

-- all rows of the last spans are kept
abbrev pub least_ago : Span → ℕ → ℕ → Option Reason
least_ago span spans most = if nat_le spans most then Some (record { span = span; by = Age; number = spans }) else None

-- what an option keeps at least: the newest row, all of any age, or all of the last spans
abbrev pub least_by : Limit → Span → ℕ → ℕ → Bool → Option Reason
least_by (Number n) span spans hours newest =
    if (rank_of_span span == 0) && newest then Some (record { span = span; by = Count; number = 1 }) else None
least_by All span spans hours newest = if rank_of_span span == 0 then Some (record { span = span; by = Age; number = hours }) else None
least_by (Within reach) span spans hours newest = None
least_by (Ago n) span spans hours newest = least_ago span spans n
least_by (Begin n) span spans hours newest = None

abbrev pub least_of : Begins → Row → Bool → Row → Part → Option Reason
least_of begins now newest row part = least_by part.limit part.span (ago begins part.span now row) (ago begins Hour now row) newest

abbrev pub at_least : Begins → Row → Bool → Row → List Part → Option Reason
at_least begins now newest row [] = None
at_least begins now newest row (part ∷ parts) = option_or (least_of begins now newest row part) (at_least begins now newest row parts)

-- what keeps the row: the longest span of which it is the first, or what is kept at least
abbrev pub why : Begins → List Part → Row → ℕ → Bool → Row → Option Reason
why begins parts now deep newest row =
    option_or (by_first (nat_le 5 deep) Year (ago begins Year now row) parts)
    (option_or (by_first (nat_le 4 deep) Month (ago begins Month now row) parts)
    (option_or (by_first (nat_le 3 deep) Week (ago begins Week now row) parts)
    (option_or (by_first (nat_le 2 deep) Day (ago begins Day now row) parts)
    (option_or (by_first (nat_le 1 deep) Hour (ago begins Hour now row) parts) (at_least begins now newest row parts)))))
