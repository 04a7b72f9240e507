use Rattle.ele_rows.proofs.Words.{arith, last_room-here, length, room_needs, slice_get-get_or, ◌-◌}
use Rattle.ele_rows.proofs.seam.push_last.Goals as goal

pub push-requires : goal.push-requires
push-requires g c =
    let cs = c.args.chunks.now in
    let some = room_needs cs c.requires.room in
    let is = slice_get-get_or cs (length cs - 1) c.index-chunks-last.result (omega arith) in
    omega (arith, last_room-here cs (length cs - 1) _ (omega arith) is, c.requires.room)
