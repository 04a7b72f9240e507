use Rattle.ele_script.proofs.EveryLine.{every_line_meaning}
use Rattle.ele_script.proofs.line_laws.every_line_meaning.Goals as goal

pub returns : goal.returns
returns c = every_line_meaning
