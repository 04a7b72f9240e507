use Rattle.ele_script.proofs.Policies.{unsafe}
use Rattle.ele_script.proofs.word.safe_numbers.Goals as goal

pub returns-clause-none : goal.returns-clause-none
returns-clause-none c = unsafe c.args.word.now c.in_ok-strip_prefix.field-0.now c.read_safe.result c.in_ok-strip_prefix.ensures.cases.1 c.read_safe.ensures.none
