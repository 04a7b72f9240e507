use Rattle.ele_suggest.proofs.table.put_table_heading.Goals as goal

pub returns-then-sizes : goal.returns-then-sizes
returns-then-sizes g c = rw c.if-sizes.true c.put.ensures

pub returns-else-sizes : goal.returns-else-sizes
returns-else-sizes g c = rw c.if-sizes.false c.put-else-sizes.ensures
