-- What each kind of word means. No public clause cites this module.
use Rattle.std.specs.Prelude.{◌≡◌, ℕ, List, codes}
use Rattle.std.specs.List.{list_any}
use Rattle.ele_policy.specs.declared.policy.Policy.{Policy}
use Rattle.ele_policy.specs.declared.policy.Policy.TheVariants.{One, All, Safe, Landmarks}
use Rattle.ele_policy.specs.Floor.{IsFloor}
use Rattle.ele_policy.specs.Interval.{IsInterval}
use Rattle.ele_policy.specs.Ladder.{IsLadder}
use Rattle.ele_tool_words.specs.PolicyWord.{SpellsRungs, SpellsSafe, is_slash, standard_rungs}

-- the word is the name of the policy
abbrev pub IsNamed : List ℕ → Policy → Type 0
IsNamed word One = word ≡ codes "one"
IsNamed word All = word ≡ codes "all"
IsNamed word (Safe seconds floor) = ⊥
IsNamed word (Landmarks rungs) = (word ≡ codes "standard") × (rungs ≡ standard_rungs)

-- the text behind `safe:` means the policy
abbrev pub IsSafe : List ℕ → Policy → Type 0
IsSafe text One = ⊥
IsSafe text All = ⊥
IsSafe text (Safe seconds floor) = SpellsSafe (list_any is_slash text) text seconds floor × IsInterval seconds × IsFloor floor
IsSafe text (Landmarks rungs) = ⊥

-- the text behind `landmarks:` means the policy
abbrev pub IsLandmarks : List ℕ → Policy → Type 0
IsLandmarks text One = ⊥
IsLandmarks text All = ⊥
IsLandmarks text (Safe seconds floor) = ⊥
IsLandmarks text (Landmarks rungs) = SpellsRungs text rungs × IsLadder rungs
