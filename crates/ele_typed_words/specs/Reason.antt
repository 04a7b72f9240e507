-- Why a word is no policy: the first thing that is wrong with it.
use Rattle.std.specs.Prelude.{◌≡◌, ◌≢◌, ◌≤◌, ◌<◌, ℕ, ◌%◌, ◌==◌, ◌&&◌, ◌||◌, nat_le, nat_lt, Bool, true, false, List, [], ◌∷◌, ◌++◌, length, Option, Some, None, codes, if◌then◌else◌}
use Rattle.std.specs.List.{count_by, list_any}
use Rattle.ele_moment.specs.Last.{last_moment}
use Rattle.ele_policy.specs.Ladder.{Rung, ground}
use Rattle.ele_tool_words.specs.PolicyWord.{SpellsRungs, SpellsSafe, is_comma, is_slash}
use Rattle.ele_typed_words.specs.declared.reason.PolicyReason.{PolicyReason}
use Rattle.ele_typed_words.specs.declared.reason.PolicyReason.TheVariants.{Month, Seconds, Floor, Pairs, Ages, Widths, Form}

-- a digit (48 to 57), `m` (109) and `o` (111)
abbrev pub begins_month : List ℕ → Bool
begins_month [] = false
begins_month (a ∷ []) = false
begins_month (a ∷ b ∷ []) = false
begins_month (a ∷ b ∷ c ∷ rest) = (b == 109) && (c == 111) && nat_le 48 a && nat_le a 57

-- somewhere a number has the unit `mo`
abbrev pub has_month : List ℕ → Bool
has_month [] = false
has_month (a ∷ rest) = begins_month (a ∷ rest) || has_month rest

-- at least one second, and at most the time from the first moment to the last
abbrev pub is_seconds : ℕ → Bool
is_seconds seconds = nat_lt 0 seconds && nat_le seconds last_moment

abbrev pub safe_reason : ℕ → ℕ → PolicyReason
safe_reason seconds floor = if is_seconds seconds then (if nat_lt 16 floor then Floor else Form) else Seconds

-- the text behind `safe:` has a length and a floor, or doesn't
pub data IsSafeReason (text : List ℕ) (reason : PolicyReason) : Type 0 where
  safe_spelled : (seconds floor : ℕ) → SpellsSafe (list_any is_slash text) text seconds floor → reason ≡ safe_reason seconds floor → IsSafeReason text reason
  safe_formless : ((seconds floor : ℕ) → ¬ SpellsSafe (list_any is_slash text) text seconds floor) → reason ≡ Form → IsSafeReason text reason

-- why the second rung can't follow the first: its seconds, its age, or its width
abbrev pub rung_reason : Rung → Rung → Option PolicyReason
rung_reason low high =
    if is_seconds high.0 && is_seconds high.1
    then (if nat_lt low.0 high.0 then (if high.1 % low.1 == 0 then None else Some Widths) else Some Ages)
    else Some Seconds

abbrev pub or_next : Option PolicyReason → PolicyReason → PolicyReason
or_next (Some reason) next = reason
or_next None next = next

-- the reason of the first rung that can't follow the one before it
abbrev pub rungs_reason : Rung → List Rung → PolicyReason
rungs_reason low [] = Form
rungs_reason low (high ∷ rungs) = or_next (rung_reason low high) (rungs_reason high rungs)

-- commas for more than eight pairs
abbrev pub is_many : List ℕ → Bool
is_many text = nat_lt 7 (count_by is_comma text)

abbrev pub unread_reason : List ℕ → PolicyReason
unread_reason text = if is_many text then Pairs else Form

-- the text behind `landmarks:` has up to eight pairs, or doesn't
pub data IsLadderReason (text : List ℕ) (reason : PolicyReason) : Type 0 where
  ladder_spelled : (rungs : List Rung) → SpellsRungs text rungs → length rungs ≤ 8 → reason ≡ rungs_reason ground rungs → IsLadderReason text reason
  ladder_formless : ((rungs : List Rung) → SpellsRungs text rungs → 8 < length rungs) → reason ≡ unread_reason text → IsLadderReason text reason

-- a month comes first, since nothing else that is wrong with such a word helps its reader
pub data IsPolicyReason (word : List ℕ) (reason : PolicyReason) : Type 0 where
  month : has_month word ≡ true → reason ≡ Month → IsPolicyReason word reason
  safe : has_month word ≡ false → (text : List ℕ) → word ≡ codes "safe:" ++ text → IsSafeReason text reason → IsPolicyReason word reason
  ladder : has_month word ≡ false → (text : List ℕ) → word ≡ codes "landmarks:" ++ text → IsLadderReason text reason → IsPolicyReason word reason
  formless : has_month word ≡ false → ((text : List ℕ) → word ≢ codes "safe:" ++ text) → ((text : List ℕ) → word ≢ codes "landmarks:" ++ text) → reason ≡ Form → IsPolicyReason word reason
