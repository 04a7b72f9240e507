use Rattle.ele_output.proofs.Known.{reports_all}
use Rattle.ele_words.proofs.program.tell.Goals as goal

pub returns-clause-told : goal.returns-clause-told
returns-clause-told g c =
    rw c.in-Some.is (reports_all (rw (c.number.ensures, c.name.ensures) at c.put_named.ensures) c.flush-2.ensures)
