use Rattle.ele_state.proofs.ClosedSums.{left_sound}
use Rattle.ele_state.proofs.session.leave.Goals as goal

pub drop_idle-requires : goal.drop_idle-requires
drop_idle-requires c = rw c.leave.ensures (left_sound c.args.rows.now c.args.handle.now.row.number c.args.file c.requires.sound c.requires.reads c.follow_blocks.new.book (rw c.leave.ensures at c.follow_blocks.ensures))
