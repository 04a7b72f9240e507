use Rattle.std.proofs.Common.{ap, ◌∙◌}
use Rattle.ele_suggest.specs.declared.weighed.Weighed.{Weighed}
use Rattle.ele_suggest.proofs.Bests.{first_at, keeps_there, other_at}
use Rattle.ele_suggest.proofs.best.better.Goals as goal

pub returns-then-not-keeps : goal.returns-then-not-keeps
returns-then-not-keeps c =
    other_at c.args.weighed.now c.args.place c.args.best c.index-weighed-place.result c.requires.inside c.index-weighed-place.is (ap (λ (one : Weighed). one.keeps) c.index-weighed-place.is ∙ c.if-not-keeps.true) c.requires.before

pub cheaper-requires-clause-keeps : goal.cheaper-requires-clause-keeps
cheaper-requires-clause-keeps c =
    keeps_there c.args.weighed.now c.args.place c.index-weighed-place.result c.requires.inside c.index-weighed-place.is (ap (λ (one : Weighed). one.keeps) c.index-weighed-place.is ∙ c.if-not-keeps.false)

pub returns-in-None : goal.returns-in-None
returns-in-None c =
    first_at c.args.weighed.now c.args.place c.index-weighed-place.result c.requires.inside c.index-weighed-place.is (ap (λ (one : Weighed). one.keeps) c.index-weighed-place.is ∙ c.if-not-keeps.false) (rw c.in-None.is at c.requires.before)
