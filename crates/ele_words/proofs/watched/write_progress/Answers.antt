use Rattle.std.proofs.Common.{rules}
use Rattle.ele_output.specs.Prints.{outlet}
use Rattle.ele_output.proofs.Known.{handed_over}
use Rattle.ele_words.proofs.watched.write_progress.Goals as goal

pub returns : goal.returns
returns g c = handed_over (outlet g.P.Write.contents c.new-printer.result) _ (outlet g.P.Write.contents c.hand_over.new.self) c.hand_over.result c.new-printer.ensures.held c.put_placed.ensures c.hand_over.ensures c.new-printer.ensures.known (search rules)
