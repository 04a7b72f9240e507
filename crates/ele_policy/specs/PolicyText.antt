-- The text of policies and their kinds.
use Rattle.std.specs.Prelude.{ℕ, zero, suc, List, [], ◌∷◌, ◌++◌, map, codes}
use Rattle.std.specs.Fmt.{decimal}
use Rattle.std.specs.List.{join_with_byte}
use Rattle.ele_policy.specs.Ladder.{Rung}
use Rattle.ele_policy.specs.declared.policy.Kind.{Kind}
use Rattle.ele_policy.specs.declared.policy.Kind.TheVariants as kind
use Rattle.ele_policy.specs.declared.policy.Policy.{Policy}
use Rattle.ele_policy.specs.declared.policy.Policy.TheVariants as policy

-- the word of an age and a width, with a slash (47) between them
abbrev pub pair_word : Rung → List ℕ
pair_word pair = decimal pair.0 ++ 47 ∷ decimal pair.1

-- the pairs of a ladder, with a comma (44) between each two
abbrev pub ladder_word : List Rung → List ℕ
ladder_word rungs = join_with_byte 44 (map pair_word rungs)

-- a floor after the seconds, with a slash between them; a floor of 0 has no text
abbrev pub floor_word : ℕ → List ℕ
floor_word zero = []
floor_word (suc n) = 47 ∷ decimal (suc n)

-- the word of a policy
abbrev pub policy_word : Policy → List ℕ
policy_word policy.One = codes "one"
policy_word policy.All = codes "all"
policy_word (policy.Safe seconds floor) = codes "safe:" ++ decimal seconds ++ floor_word floor
policy_word (policy.Landmarks rungs) = codes "landmarks:" ++ ladder_word rungs

-- the word of a kind
abbrev pub kind_word : Kind → List ℕ
kind_word kind.One = codes "one"
kind_word kind.All = codes "all"
kind_word kind.Safe = codes "safe"
kind_word kind.Landmarks = codes "landmarks"
