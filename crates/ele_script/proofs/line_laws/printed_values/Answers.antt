use Rattle.ele_script.proofs.EventBack.{event_back}
use Rattle.ele_script.proofs.line_laws.printed_values.Goals as goal

pub returns : goal.returns
returns c = event_back
