use Rattle.ele_names.proofs.Lemmas.{table_new}
use Rattle.ele_names.proofs.table.Table.new.Goals as goal

pub returns-clause-is : goal.returns-clause-is
returns-clause-is c = λ names. table_new names _ c.new.ensures (c.new-2.ensures.placed names)
