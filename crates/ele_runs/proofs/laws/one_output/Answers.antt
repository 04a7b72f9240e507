use Rattle.ele_runs.proofs.OneOutput.{one_output}
use Rattle.ele_runs.proofs.laws.one_output.Goals as goal

pub returns : goal.returns
returns c = one_output c.one_answer.ensures
