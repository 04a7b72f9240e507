use Rattle.std.proofs.Common.{◌<◌, ◌≤◌, arith, length, refl}
use Rattle.ele_output.proofs.Known.{put_none}
use Rattle.ele_suggest.specs.SuggestedText.{row_text, rows_text}
use Rattle.ele_suggest.proofs.RowTexts.{row_more, rows_done}
use Rattle.ele_suggest.proofs.row.put_rows.Goals as goal

pub loop-place-init : goal.loop-place-init
loop-place-init g c = rw c.as_slice-weighed.ensures.value (put_none refl)

pub loop-place-preserved : goal.loop-place-preserved
loop-place-preserved g c =
    let lt : c.loop-place.place < length c.as_slice-weighed.result.now = omega arith in
    row_more (row_text c.args.around.now c.args.between.now c.args.sizes) c.args.suggestion.now.best c.as_slice-weighed.result.now c.loop-place.place c.index-weighed-place.result lt c.index-weighed-place.is c.loop-place.invariant (rw c.is_best-best.ensures at c.put_row.ensures)

pub returns : goal.returns
returns g c =
    let le : length c.as_slice-weighed.result.now ≤ c.loop-place.place = omega arith in
    rows_done {whole = rows_text c.args.around.now c.args.between.now c.args.sizes c.args.suggestion.now} (row_text c.args.around.now c.args.between.now c.args.sizes) c.args.suggestion.now.best c.as_slice-weighed.result.now c.loop-place.place le c.loop-place.invariant
