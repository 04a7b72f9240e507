use Rattle.ele_names.proofs.Lemmas.{refl, numbered_with}
use Rattle.ele_names.proofs.live_names.LiveNames.enter.Goals as goal

pub returns-clause-numbered : goal.returns-clause-numbered
returns-clause-numbered c = λ at fresh numbered. numbered_with c.args.row.now c.args.serial at _ _ numbered fresh c.requires.live _ refl (c.set.ensures.live _ _ c.requires.its)
