use Rattle.std.proofs.Common.{arith}
use Rattle.ele_svg_marks.specs.Labels.{label_drawn}
use Rattle.ele_svg_marks.specs.Shelves.{shelved}
use Rattle.ele_svg_marks.proofs.Walk.{walked_end, walked_more}
use Rattle.ele_output.proofs.Known.{put_all, put_more}
use Rattle.ele_svg_marks.proofs.labels.put_labels.Goals as goal

pub loop-staying-preserved : goal.loop-staying-preserved
loop-staying-preserved g c =
    let page = c.args.page.now in
    let more = walked_more (label_drawn page) (shelved page) c.loop-staying.shelves c.args.stayings.now c.loop-staying.staying-index c.staying-item.result (omega arith) c.staying-item.is in
    let label = rw (c.row_for-row.ensures.value, c.label_width-width.ensures, c.x-x.ensures.value) at c.put_label.ensures in
    rw (c.shelved_on-shelves.ensures, c.row_for-row.ensures.value, c.label_width-width.ensures, c.x-x.ensures.value) (put_more c.loop-staying.invariant more label)

pub returns : goal.returns
returns g c =
    let page = c.args.page.now in
    put_all c.loop-staying.invariant (walked_end (label_drawn page) (shelved page) c.loop-staying.shelves c.args.stayings.now c.loop-staying.staying-index c.loop-staying-test.false)
