use Rattle.ele_output.proofs.Known.{reports_all}
use Rattle.ele_words.proofs.storming.tell_fault.Goals as goal

pub returns-clause-told : goal.returns-clause-told
returns-clause-told g c = reports_all (rw (c.number.ensures, c.name.ensures) at c.put_named.ensures) c.flush.ensures
