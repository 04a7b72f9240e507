use Rattle.std.proofs.Common.{ℕ, List, sym, subst}
use Rattle.ele_moment.specs.Spelled.{SpellsMoment}
use Rattle.ele_tool_words.proofs.local.read_local.Goals as goal

pub returns-clause-only : goal.returns-clause-only
returns-clause-only c = λ m h. c.read.ensures.only m (subst (λ (s : List ℕ). SpellsMoment s m) (sym c.stamp_of.ensures) h)
