use Rattle.ele_groups.proofs.Basics.{bytes_eq, sym}
use Rattle.ele_groups.proofs.Entered.{none_before}
use Rattle.ele_groups.proofs.groups.Groups.from_rows.Goals as goal

pub put_row-requires-clause-new : goal.put_row-requires-clause-new
put_row-requires-clause-new c =
    rw c.loop-row.invariant.rows (none_before (λ earlier later. bytes_eq earlier.name later.name) c.args.rows.now c.loop-row.row-index c.row-item.result c.requires.named c.loop-row-test.true (sym c.row-item.is))
