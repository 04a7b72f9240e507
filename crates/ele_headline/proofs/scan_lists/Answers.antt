use Rattle.ele_model.proofs.Formed.{in_parts}
use Rattle.ele_headline.proofs.ScanOrder.{scan_lists}
use Rattle.ele_headline.proofs.scan_lists.Goals as goal

pub returns : goal.returns
returns c = λ w k. scan_lists w (in_parts c.policies_are_lawful.ensures w k)
