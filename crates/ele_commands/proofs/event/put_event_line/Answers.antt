use Rattle.ele_output.proofs.Known.{puts_then}
use Rattle.ele_commands.proofs.event.put_event_line.Goals as goal

pub returns-clause-text : goal.returns-clause-text
returns-clause-text g c = puts_then c.put_event.ensures.text c.put.ensures
