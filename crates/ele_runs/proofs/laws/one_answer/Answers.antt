use Rattle.ele_runs.proofs.OneAnswer.{one_answer}
use Rattle.ele_runs.proofs.laws.one_answer.Goals as goal

pub returns : goal.returns
returns c = one_answer c.one_line_meaning.ensures c.pass_is_of_world.ensures
