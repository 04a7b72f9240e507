-- What btrbk keeps of rows in order of time: the first of an hour, a day, a week, a month or a year, up to so many of these ago.
use Rattle.std.specs.Prelude.{◌≡◌, ℕ, ◌+◌, ◌-◌, ◌/◌, nat_le, Bool, true, false, ◌&&◌, List, [], ◌∷◌, Option, Some, None}
use Rattle.ele_lists.specs.Ends.{last_of}
use Rattle.ele_moment.specs.Last.{last_moment}
use Rattle.ele_rule_parts.specs.declared.part.Part.{Part}
use Rattle.ele_rule_parts.specs.declared.reason.Reason.{Reason}
use Rattle.ele_rule_parts.specs.declared.row.Row.{Row}
use Rattle.ele_rule_parts.specs.Shown.{IsMonth}
use Rattle.ele_btrbk_rules.specs.declared.begins.Begins.{Begins}
use Rattle.ele_btrbk_rules.specs.Numbers.{begins_of}
use Rattle.ele_btrbk_rules.specs.Firsts.{depths_of}
use Rattle.ele_btrbk_rules.specs.Why.{why}

abbrev pub is_last : List Row → Bool
is_last [] = true
is_last (next ∷ newer) = false

-- what keeps each row, of so many spans of which it is the first
abbrev pub kept_from : Begins → List Part → Row → List Row → List ℕ → List (Option Reason)
kept_from begins parts now [] depths = []
kept_from begins parts now (row ∷ newer) [] = []
kept_from begins parts now (row ∷ newer) (deep ∷ depths) = why begins parts now deep (is_last newer) row ∷ kept_from begins parts now newer depths

abbrev pub kept_by : List Part → Row → List Row → List (Option Reason)
kept_by parts now rows = kept_from (begins_of parts) parts now rows (depths_of (begins_of parts) rows)

-- now, as the clock of the newest row shows it
pub record IsShownNow (m local : ℕ) (now : Row) : Type 0 where
  pub moment : now.moment ≡ m
  pub local_is : now.local ≡ local
  pub month : IsMonth (now.local / 86400) now.month

-- or that row, if it is later, or the clock shows no time up to the year 9999
abbrev pub IsNowIf : Bool → ℕ → Row → Row → Type 0
IsNowIf true m newest now = IsShownNow m (newest.local + (m - newest.moment)) now
IsNowIf false m newest now = now ≡ newest

abbrev pub IsNow : ℕ → Row → Row → Type 0
IsNow m newest now = IsNowIf (nat_le newest.moment m && nat_le (newest.local + (m - newest.moment)) last_moment) m newest now

abbrev pub IsScheduledBy : Option Row → List Part → ℕ → List Row → List (Option Reason) → Type 0
IsScheduledBy None parts m rows marks = marks ≡ []
IsScheduledBy (Some newest) parts m rows marks = (now : Row) × IsNow m newest now × (marks ≡ kept_by parts now rows)

-- what keeps each row at the moment, if something does
abbrev pub IsScheduled : List Part → ℕ → List Row → List (Option Reason) → Type 0
IsScheduled parts m rows marks = IsScheduledBy (last_of rows) parts m rows marks
