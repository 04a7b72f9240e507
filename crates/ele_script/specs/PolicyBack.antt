-- The word that a policy is printed as reads back as that policy.
use Rattle.std.specs.Prelude.{Ok}
use Rattle.ele_policy.specs.declared.policy.Policy.{Policy}
use Rattle.ele_policy.specs.Policy.{IsPolicy}
use Rattle.ele_script.specs.PolicyWord.{ReadsPolicy}
use Rattle.ele_policy.specs.PolicyText.{policy_word}

abbrev pub PolicyBack : Type 0
PolicyBack = (policy : Policy) → IsPolicy policy → ReadsPolicy (policy_word policy) (Ok policy)
