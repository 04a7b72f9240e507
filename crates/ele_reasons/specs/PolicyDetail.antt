-- Which number of a policy is wrong.
use Rattle.std.specs.Prelude.{◌≡◌, ℕ, ◌%◌, ◌==◌, ◌&&◌, nat_le, nat_lt, not, Bool, List, [], ◌∷◌, length, Option, Some, None, if◌then◌else◌}
use Rattle.ele_moment.specs.Last.{last_moment}
use Rattle.ele_policy.specs.Ladder.{Rung, ground}
use Rattle.ele_script.specs.PolicyWord.{IsLadderWord, IsSafeWord}
use Rattle.ele_reasons.specs.declared.reasons.Detail.{Detail}
use Rattle.ele_reasons.specs.declared.reasons.Detail.TheVariants.{Floor, Seconds, Pairs, Ages, Widths, Other}

-- at least one second, and at most the time from the first moment to the last
abbrev pub is_seconds : ℕ → Bool
is_seconds seconds = nat_lt 0 seconds && nat_le seconds last_moment

abbrev pub safe_detail : ℕ → ℕ → Detail
safe_detail seconds floor = if is_seconds seconds then (if nat_lt 16 floor then Floor else Other) else Seconds

-- why the second rung can't follow the first: its seconds, its age, or its width
abbrev pub rung_detail : Rung → Rung → Option Detail
rung_detail low high =
    if is_seconds high.0 && is_seconds high.1
    then (if nat_lt low.0 high.0 then (if high.1 % low.1 == 0 then None else Some Widths) else Some Ages)
    else Some Seconds

-- the detail of the first rung that can't follow the one before it
abbrev pub or_rungs : Option Detail → Detail → Detail
or_rungs (Some detail) next = detail
or_rungs None next = next

abbrev pub rungs_detail : Rung → List Rung → Detail
rungs_detail low [] = Other
rungs_detail low (high ∷ rungs) = or_rungs (rung_detail low high) (rungs_detail high rungs)

-- any number of pairs of a ladder
abbrev pub ladder_detail : List Rung → Detail
ladder_detail pairs = if length pairs == 0 then Pairs else if nat_lt 8 (length pairs) then Pairs else rungs_detail ground pairs

-- a word: what is wrong with its numbers, if it has the form of a policy with numbers
pub data IsPolicyDetail (word : List ℕ) (detail : Detail) : Type 0 where
  of_safe : (seconds floor : ℕ) → IsSafeWord word seconds floor → detail ≡ safe_detail seconds floor → IsPolicyDetail word detail
  of_ladder : (pairs : List Rung) → IsLadderWord word pairs → detail ≡ ladder_detail pairs → IsPolicyDetail word detail
  formless : ((seconds floor : ℕ) → ¬ IsSafeWord word seconds floor) → ((pairs : List Rung) → ¬ IsLadderWord word pairs) → detail ≡ Other → IsPolicyDetail word detail
