use Rattle.ele_commands.proofs.Basics.{sym}
use Rattle.ele_commands.specs.Word.{word_text}
use Rattle.ele_output.proofs.Known.{puts_as, puts_then}
use Rattle.ele_output.proofs.Lists.{joined_are}
use Rattle.ele_commands.proofs.word.put_line_of.Goals as goal

pub returns : goal.returns
returns g c = puts_then (puts_as (sym (joined_are 32 word_text c.args.first.now c.args.words.now)) (puts_then c.put.ensures c.put_each.ensures.text)) c.put_byte.ensures
