use Rattle.ele_chain.proofs.Grows.{goes_on}
use Rattle.ele_chain.proofs.laws.longer_chain.Goals as goal

pub returns : goal.returns
returns c = goes_on
