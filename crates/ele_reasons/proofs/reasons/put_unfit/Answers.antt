use Rattle.ele_reasons.proofs.reasons.put_unfit.Goals as goal

pub returns-in-13 : goal.returns-in-13
returns-in-13 g c = rw c.in-13.is c.put.ensures

pub returns-in-9 : goal.returns-in-9
returns-in-9 g c = rw c.in-9.is c.put-in-9.ensures
