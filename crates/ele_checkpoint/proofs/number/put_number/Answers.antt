use Rattle.ele_checkpoint.specs.Number.{number_text}
use Rattle.ele_checkpoint.proofs.number.put_number.Goals as goal

pub returns : goal.returns
unfolding number_text
returns c = c.put_digits.ensures
