-- By which part of a rule a version is kept, in words.
use Rattle.std.specs.Prelude.{ℕ, List, ◌∷◌, ◌++◌, codes, decimal}
use Rattle.ele_rule_parts.specs.declared.reason.By.{By}
use Rattle.ele_rule_parts.specs.declared.reason.By.TheVariants.{Count, Age, Oldest, Other}
use Rattle.ele_rule_parts.specs.declared.reason.Reason.{Reason}
use Rattle.ele_rule_parts.specs.declared.span.Span.{Span}
use Rattle.ele_rule_parts.specs.declared.span.Span.TheVariants.{Each, Second, Minute, Hour, Day, Week, Month, Year}

-- the part that keeps a number of versions
abbrev pub span_word : Span → List ℕ
span_word Each = codes "last"
span_word Second = codes "secondly"
span_word Minute = codes "minutely"
span_word Hour = codes "hourly"
span_word Day = codes "daily"
span_word Week = codes "weekly"
span_word Month = codes "monthly"
span_word Year = codes "yearly"

-- the part that keeps versions within a length of time
abbrev pub within_word : Span → List ℕ
within_word Each = codes "within"
within_word Second = codes "within-secondly"
within_word Minute = codes "within-minutely"
within_word Hour = codes "within-hourly"
within_word Day = codes "within-daily"
within_word Week = codes "within-weekly"
within_word Month = codes "within-monthly"
within_word Year = codes "within-yearly"

-- the part that keeps the oldest version, while it may keep more
abbrev pub oldest_text : Span → List ℕ
oldest_text span = codes "oldest-" ++ span_word span

abbrev pub name_text : Span → By → List ℕ
name_text span Count = span_word span
name_text span Age = within_word span
name_text span Oldest = oldest_text span
name_text span Other = codes "other"

-- the part, a mark, and as which of the versions that the part counts, from 1 for the newest
abbrev pub reason_text : ℕ → Reason → List ℕ
reason_text mark reason = name_text reason.span reason.by ++ mark ∷ decimal reason.number
