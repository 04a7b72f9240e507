use Rattle.std.proofs.Common.{sym}
use Rattle.ele_suggest.proofs.Bests.{keeps_at, new_at, old_at}
use Rattle.ele_suggest.proofs.best.cheaper.Goals as goal

pub returns-then-costs_less : goal.returns-then-costs_less
returns-then-costs_less c =
    let keeps = keeps_at c.args.weighed.now c.args.place c.index-weighed-place.result c.requires.inside c.index-weighed-place.is c.requires.keeps in
    new_at c.args.weighed.now c.args.place c.args.old c.index-weighed-place.result c.index-weighed-old.result c.requires.inside c.index-weighed-place.is c.index-weighed-old.is keeps c.requires.before (sym c.if-costs_less.ensures)

pub returns-else-costs_less : goal.returns-else-costs_less
returns-else-costs_less c =
    old_at c.args.weighed.now c.args.place c.args.old c.index-weighed-place.result c.index-weighed-old.result c.requires.inside c.index-weighed-place.is c.index-weighed-old.is c.requires.before (sym c.if-costs_less.ensures)
