use Rattle.ele_runs.proofs.SomeOutput.{some_output}
use Rattle.ele_runs.proofs.laws.some_output.Goals as goal

pub returns : goal.returns
returns c = some_output c.every_line_meaning.ensures
