use Rattle.ele_runs.proofs.PlainOutput.{plain_output}
use Rattle.ele_runs.proofs.laws.plain_output.Goals as goal

pub returns : goal.returns
returns c = plain_output
