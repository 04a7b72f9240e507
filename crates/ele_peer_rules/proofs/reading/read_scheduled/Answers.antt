use Rattle.ele_peer_rules.proofs.RuleParts.{found_ok, none_ok}
use Rattle.ele_peer_rules.proofs.reading.read_scheduled.Goals as goal

pub returns-in-Some-clause-only : goal.returns-in-Some-clause-only
returns-in-Some-clause-only c part spelled = found_ok c.in-Some.part part (c.in-Some.ensures.only part spelled)

pub returns-in-None-clause-only : goal.returns-in-None-clause-only
returns-in-None-clause-only c part spelled = none_ok c.wrong_item.result part (c.in-None.ensures.only part spelled)
