use Rattle.std.proofs.Common.{rules}
use Rattle.ele_output.specs.Prints.{outlet}
use Rattle.ele_output.proofs.Known.{handed_over}
use Rattle.ele_commands.proofs.event.write_event_text.Goals as goal

pub returns-clause-text : goal.returns-clause-text
returns-clause-text g c = handed_over (outlet g.W.Write.contents c.new-printer.result) _ (outlet g.W.Write.contents c.hand_over.new.self) c.hand_over.result c.new-printer.ensures.held c.put_event_line.ensures.text c.hand_over.ensures c.new-printer.ensures.known (search rules)
