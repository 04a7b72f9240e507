use Rattle.ele_headline.proofs.Answered.{headline}
use Rattle.ele_headline.proofs.headline.Goals as goal

pub returns : goal.returns
returns c = headline c.policies_are_lawful.ensures
