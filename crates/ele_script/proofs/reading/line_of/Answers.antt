use Rattle.ele_script.proofs.Basics.{sym, inr}
use Rattle.ele_script.proofs.Commands.{unfit_words, faults_of_words}
use Rattle.ele_script.proofs.reading.line_of.Goals as goal

pub returns-in_default-clause-fault : goal.returns-in_default-clause-fault
returns-in_default-clause-fault c = inr (unfit_words _ (sym c.in_default.ensures))

pub returns-clause-fault : goal.returns-clause-fault
returns-clause-fault c = faults_of_words _ _ _ _ c.line_behind.result (sym c.in-Some.ensures) c.line_behind.ensures
