use Rattle.ele_state.proofs.Changes.{both_change, same_change}
use Rattle.ele_state.proofs.Marked.{file_more, mark_more}
use Rattle.ele_state.proofs.mark.changes_by.Goals as goal

pub loop-mark-preserved : goal.loop-mark-preserved
loop-mark-preserved c =
    let more = mark_more c.args.rows.now.files.versions c.args.files.now c.args.marks.now c.loop-file.file-index c.file-item.result c.loop-mark.mark-index c.mark-item.result c.loop-mark-test.true c.mark-item.is in
    rw c.in_ok-add_change.ensures (both_change _ _ _ _ _ _ _ more c.loop-mark.invariant c.change_at.ensures)

pub loop-file-preserved : goal.loop-file-preserved
loop-file-preserved c =
    let more = file_more c.args.rows.now.files.versions c.args.files.now c.args.marks.now c.loop-file.file-index c.file-item.result c.loop-mark.mark-index c.loop-file-test.true c.file-item.is c.loop-mark-test.false in
    same_change _ _ _ _ _ more c.loop-mark.invariant
