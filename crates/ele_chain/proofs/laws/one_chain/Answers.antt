use Rattle.ele_chain.proofs.Meets.{one_chain}
use Rattle.ele_chain.proofs.laws.one_chain.Goals as goal

pub returns : goal.returns
returns c = one_chain
