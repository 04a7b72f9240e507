use Rattle.ele_names.proofs.Words.{sym}
use Rattle.ele_names.proofs.Restored.{before_follow}
use Rattle.ele_names.proofs.names.Names.from_rows.Goals as goal

pub add_row-requires : goal.add_row-requires
add_row-requires c =
    rw c.loop-row.invariant (before_follow c.args.rows.now c.loop-row.row-index c.row-item.result c.requires.dead c.requires.apart c.loop-row-test.true (sym c.row-item.is))
