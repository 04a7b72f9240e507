use Rattle.ele_runs.proofs.FrontOfOutput.{front_of_output}
use Rattle.ele_runs.proofs.laws.front_of_output.Goals as goal

pub returns : goal.returns
returns c = front_of_output c.every_line_meaning.ensures
