use Rattle.std.proofs.Common.{ℕ, List, sym, subst}
use Rattle.ele_tool_words.specs.PolicyWord.{MeansPolicy}
use Rattle.ele_invocation.proofs.reading.policy_of.Goals as goal

pub returns-in_default-clause-unread : goal.returns-in_default-clause-unread
returns-in_default-clause-unread c = λ asked asks.
    c.in_default.not-Some asked.policy (c.read_policy.ensures.only asked.policy (subst (λ (w : List ℕ). MeansPolicy w asked.policy) (sym c.as_bytes.ensures.value) asks.means))
