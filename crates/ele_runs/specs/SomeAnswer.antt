-- Each line has an answer.
use Rattle.std.specs.Prelude.{ℕ, ◌≤◌, false, List, Option}
use Rattle.ele_history.specs.Past.{Past, count_of}
use Rattle.ele_runs.specs.Block.{IsTextIn}
use Rattle.ele_runs.specs.Kept.{Recorded}
use Rattle.ele_runs.specs.Said.{IsForMemory, MayAnswer}
use Rattle.ele_runs.specs.declared.said.Said.{Said}

-- the history is within its limit of entries
abbrev pub IsWithin : Past → Type 0
IsWithin past = count_of past ≤ past.base.limits.events

-- the line has an answer that is no stop for memory; the answer has a text, and leaves the history within its limit
pub record HasAnswer (before : Past) (line : Option (List ℕ)) : Type 0 where
  pub said : Said
  pub after : Past
  pub may : MayAnswer false (Recorded before) line said (Recorded after)
  pub unstopped : ¬ IsForMemory said
  pub text : List ℕ
  pub is : IsTextIn after said text
  pub within : IsWithin after

abbrev pub SomeAnswer : Type 0
SomeAnswer = (before : Past) (line : Option (List ℕ)) → IsWithin before → HasAnswer before line
