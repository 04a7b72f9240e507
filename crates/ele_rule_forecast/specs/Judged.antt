-- What rules keep of versions, at moments.
use Rattle.std.specs.Prelude.{◌≡◌, ℕ, ◌+◌, ◌-◌, nat_le, List, [], ◌∷◌, ◌++◌, Option, Some, None, filter, length, slice_get, take}
use Rattle.std.specs.List.{AllZip}
use Rattle.ele_rule_parts.specs.declared.reason.Reason.{Reason}
use Rattle.ele_rule_parts.specs.declared.row.Row.{Row}
use Rattle.ele_peer_rules.specs.declared.rule.PeerRule.{PeerRule}
use Rattle.ele_peer_rules.specs.Kept.{IsKept}
use Rattle.ele_rule_forecast.specs.declared.judged.AskedRule.{AskedRule}
use Rattle.ele_rule_forecast.specs.declared.judged.Judged.{Judged}
use Rattle.ele_rule_forecast.specs.declared.judged.Verdict.{Verdict}

-- how many versions have closed by the moment
abbrev pub count_by : ℕ → List Row → ℕ
count_by at rows = length (filter (λ row. nat_le row.moment at) rows)

-- their rows, which are the first ones
abbrev pub rows_by : ℕ → List Row → List Row
rows_by at rows = take (count_by at rows) rows

abbrev pub number_if : ℕ → Option Reason → List ℕ
number_if number None = []
number_if number (Some reason) = number ∷ []

-- the numbers of the versions that something keeps, the first of which has this one
abbrev pub numbers_from : ℕ → List (Option Reason) → List ℕ
numbers_from number [] = []
numbers_from number (reason ∷ reasons) = number_if number reason ++ numbers_from (number + 1) reasons

-- the same; versions are counted from 1
abbrev pub numbers_of : List (Option Reason) → List ℕ
numbers_of reasons = numbers_from 1 reasons

-- what the rule keeps at the moment, of the versions that have closed by then
pub record IsVerdict (rule : PeerRule) (rows : List Row) (at : ℕ) (verdict : Verdict) : Type 0 where
  pub reasons_are : IsKept rule.tool rule.parts.items at (rows_by at rows) verdict.reasons.items
  pub at_is : verdict.staying.at ≡ at
  pub numbers_are : verdict.staying.numbers.items ≡ numbers_of verdict.reasons.items

-- a verdict for each of the moments
abbrev pub AreVerdicts : PeerRule → List Row → List ℕ → List Verdict → Type 0
AreVerdicts rule rows moments verdicts = AllZip (λ at verdict. IsVerdict rule rows at verdict) moments verdicts

-- the moment of the newest version, if there is one
abbrev pub at_newest : Option Row → List ℕ
at_newest None = []
at_newest (Some row) = row.moment ∷ []

-- the moments, or that of the newest version if there are none
abbrev pub judged_at : List ℕ → List Row → List ℕ
judged_at [] rows = at_newest (slice_get rows (length rows - 1))
judged_at (at ∷ moments) rows = at ∷ moments

-- what the rule keeps at the moments, and its word
pub record IsJudged (rule : AskedRule) (rows : List Row) (moments : List ℕ) (judged : Judged) : Type 0 where
  pub word_is : judged.word.items ≡ rule.word.items
  pub verdicts_are : AreVerdicts rule.rule rows (judged_at moments rows) judged.verdicts.items

-- the same of each of the rules, in their order
abbrev pub AreJudged : List AskedRule → List Row → List ℕ → List Judged → Type 0
AreJudged rules rows moments judged = AllZip (λ rule judged. IsJudged rule rows moments judged) rules judged

-- what keeps each version at the first of the moments
abbrev pub reasons_of : List Verdict → List (Option Reason)
reasons_of [] = []
reasons_of (verdict ∷ verdicts) = verdict.reasons.items

abbrev pub reason_or_none : Option (Option Reason) → Option Reason
reason_or_none None = None
reason_or_none (Some reason) = reason

-- what keeps the version of that number, counted from 1
abbrev pub reason_in : Judged → ℕ → Option Reason
reason_in judged number = reason_or_none (slice_get (reasons_of judged.verdicts.items) (number - 1))
