use Rattle.std.proofs.Common.{◌<◌, ◌≤◌, get_or}
use Rattle.ele_rows.proofs.Basics.{Piece}
use Rattle.ele_rows.proofs.Words.{all-got, ap, arith, filled-set, last_room-change, length, length-update_last, nat_tests, slice_get-get_or, ◌-◌, ◌∙◌, ◌≡◌}
use Rattle.ele_rows.proofs.seam.change_last.Goals as goal

pub returns-clause-filled : goal.returns-clause-filled
returns-clause-filled g c =
    let cs = c.args.chunks.now in
    let here = get_or cs (length cs - 1) c.index-chunks-last.result in
    let now = c.change_last.new.self in
    let some : 1 ≤ length cs = (let e = c.is_empty.ensures in let f = c.if-is_empty.false in grind (arith, nat_tests)) in
    let is = slice_get-get_or cs (length cs - 1) c.index-chunks-last.result (omega arith) in
    let filled : 0 < length here.items = all-got (λ (piece : Piece g.row.T.Denot). 0 < length piece.items) cs (length cs - 1) here c.requires.filled is in
    let long : length now.items ≡ length here.items = ap length c.change_last.ensures.rows ∙ length-update_last (g.C.Change.changed c.args.change.now) here.items in
    filled-set cs (length cs - 1) now c.requires.filled (omega arith)

pub returns-clause-room : goal.returns-clause-room
returns-clause-room g c =
    let cs = c.args.chunks.now in
    let here = get_or cs (length cs - 1) c.index-chunks-last.result in
    let now = c.change_last.new.self in
    let some : 1 ≤ length cs = (let e = c.is_empty.ensures in let f = c.if-is_empty.false in grind (arith, nat_tests)) in
    let is = slice_get-get_or cs (length cs - 1) c.index-chunks-last.result (omega arith) in
    let long : length now.items ≡ length here.items = ap length c.change_last.ensures.rows ∙ length-update_last (g.C.Change.changed c.args.change.now) here.items in
    last_room-change cs (length cs - 1) here (omega arith) is now (omega (arith, long, c.change_last.ensures.capacity))
