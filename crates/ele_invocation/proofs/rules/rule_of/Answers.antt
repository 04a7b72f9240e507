use Rattle.std.proofs.Common.{ℕ, List, sym, subst}
use Rattle.ele_peer_rules.specs.Words.{MeansRule}
use Rattle.ele_invocation.proofs.rules.rule_of.Goals as goal

pub returns-in-Err-clause-unread : goal.returns-in-Err-clause-unread
returns-in-Err-clause-unread c = λ asked asks.
    c.in-Err.ensures.none asked.rule.tool asked.rule.parts.items
    (subst (λ (w : List ℕ). MeansRule w asked.rule.tool asked.rule.parts.items) (sym c.as_bytes.ensures.value) asks.means)
