use Rattle.ele_script.proofs.Policies.{neither}
use Rattle.ele_script.proofs.word.read_safe.Goals as goal

pub returns-in-None-clause-none : goal.returns-in-None-clause-none
returns-in-None-clause-none c = neither c.args.text.now c.read_pair.result c.in-None.ensures.only c.read_pair.ensures.none
