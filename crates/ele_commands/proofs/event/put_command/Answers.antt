use Rattle.ele_commands.proofs.Basics.{sym, ◌∙◌}
use Rattle.ele_commands.proofs.Words.{one_word, two_words}
use Rattle.ele_commands.proofs.event.put_command.Goals as goal

pub returns-then-is_empty : goal.returns-then-is_empty
returns-then-is_empty g c =
    rw (sym c.words.ensures, one_word _ _ (sym c.is_empty.ensures ∙ c.if-is_empty.true)) (rw c.as_bytes.ensures.value at c.put.ensures)

pub returns-else-is_empty : goal.returns-else-is_empty
returns-else-is_empty g c =
    rw (sym c.words.ensures, two_words _ _ (sym c.is_empty.ensures ∙ c.if-is_empty.false)) (rw (c.as_bytes-else-is_empty.ensures.value, c.as_bytes-else-is_empty-2.ensures.value) at c.put_words.ensures)
