use Rattle.ele_runs.proofs.SomeAnswer.{some_answer}
use Rattle.ele_runs.proofs.laws.some_answer.Goals as goal

pub returns : goal.returns
returns c = some_answer c.every_line_meaning.ensures
