use Rattle.ele_commands.proofs.Basics.{sym}
use Rattle.ele_commands.proofs.Words.{joined_more, some_word}
use Rattle.ele_output.proofs.Known.{puts_as, puts_then}
use Rattle.ele_commands.proofs.event.put_parts.Goals as goal

pub returns-clause-text : goal.returns-clause-text
returns-clause-text g c = puts_as (sym (joined_more _ _ (some_word c.args.command))) (puts_then c.put_command.ensures c.put_each.ensures.text)
