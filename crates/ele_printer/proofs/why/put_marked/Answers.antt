use Rattle.ele_printer.proofs.Lines.{marked_parts}
use Rattle.ele_output.proofs.Known.{puts_as, puts_then}
use Rattle.std.proofs.Common.{sym}
use Rattle.ele_printer.proofs.why.put_marked.Goals as goal

pub returns : goal.returns
returns g c = puts_as (sym (marked_parts _ _)) (puts_then c.put_words.ensures (puts_then c.put_piece.ensures c.put.ensures))
