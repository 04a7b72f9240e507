use Rattle.ele_groups.proofs.Basics.{◌==◌, sym}
use Rattle.ele_groups.proofs.Entered.{none_before}
use Rattle.ele_groups.proofs.marks.Marks.from_rows.Goals as goal

pub add-requires : goal.add-requires
add-requires c = rw c.loop-mark.invariant (none_before (λ earlier later. earlier.at == later.at) c.args.rows.now c.loop-mark.mark-index c.mark-item.result c.requires c.loop-mark-test.true (sym c.mark-item.is))
