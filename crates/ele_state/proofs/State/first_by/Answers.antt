use Rattle.ele_state.proofs.Words.{refl, ◌∙◌}
use Rattle.ele_state.proofs.Questions.{first_at}
use Rattle.ele_state.proofs.State.first_by.Goals as goal

pub returns-in_default : goal.returns-in_default
returns-in_default c = rw (← c.self.view_is) (rw c.in_default.is refl ∙ first_at c.self.inside.rows c.args.moment c.first.result c.self.invariant.sound c.lemma_in_range.ensures c.first.ensures.ripe)

pub returns-then-is_ripe : goal.returns-then-is_ripe
returns-then-is_ripe c = rw (← c.self.view_is) (rw (c.in-Some.is, ← c.is_ripe.ensures, c.if-is_ripe.true) refl ∙ first_at c.self.inside.rows c.args.moment c.first.result c.self.invariant.sound c.lemma_in_range.ensures c.first.ensures.ripe)

pub returns-else-is_ripe : goal.returns-else-is_ripe
returns-else-is_ripe c = rw (← c.self.view_is) (rw (c.in-Some.is, ← c.is_ripe.ensures, c.if-is_ripe.false) refl ∙ first_at c.self.inside.rows c.args.moment c.first.result c.self.invariant.sound c.lemma_in_range.ensures c.first.ensures.ripe)
