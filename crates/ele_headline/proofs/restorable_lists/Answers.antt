use Rattle.ele_headline.proofs.Restores.{restorable_lists}
use Rattle.ele_headline.proofs.restorable_lists.Goals as goal

pub returns : goal.returns
returns c = λ w. restorable_lists w
