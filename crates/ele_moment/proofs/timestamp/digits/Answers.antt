use Rattle.ele_moment.proofs.Pairs.{pair_at_number}
use Rattle.ele_moment.proofs.timestamp.digits.Goals as goal

pub returns-clause-tens : goal.returns-clause-tens
returns-clause-tens c = (pair_at_number c.args.number c.requires).0

pub returns-clause-ones : goal.returns-clause-ones
returns-clause-ones c = (pair_at_number c.args.number c.requires).1
