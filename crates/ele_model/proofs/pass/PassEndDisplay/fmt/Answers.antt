use Rattle.ele_model.proofs.pass.PassEndDisplay.fmt.Goals as goal

pub returns-in-Stopped-clause-writes : goal.returns-in-Stopped-clause-writes
returns-in-Stopped-clause-writes g c = λ plain ok. rw (c.in-Stopped.is, ← c.number-number.ensures, ← c.name-name.ensures) (c.write-in-Stopped.ensures.writes plain ok)
