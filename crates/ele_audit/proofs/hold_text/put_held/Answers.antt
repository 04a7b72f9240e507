use Rattle.ele_audit.proofs.Basics.{sym}
use Rattle.ele_audit.proofs.StoryLines.{held_parts}
use Rattle.ele_output.proofs.Known.{puts_as, puts_then}
use Rattle.ele_audit.proofs.hold_text.put_held.Goals as goal

pub returns : goal.returns
returns g c = puts_as (sym (held_parts _ _)) (puts_then c.put_words.ensures c.put_piece.ensures)
