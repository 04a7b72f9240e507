use Rattle.ele_forecast_forms.proofs.Steps.{zip_more}
use Rattle.ele_outlook.specs.Told.{IsByteRow}
use Rattle.ele_outlook.proofs.drawn.byte_rows.Goals as goal

pub loop-row-preserved : goal.loop-row-preserved
loop-row-preserved c =
    rw c.in_ok-push.ensures.items (zip_more IsByteRow c.args.rows.now c.loop-row.row-index c.row-item.result c.loop-row.drawn.items c.in_ok-byte_row.field-0 c.loop-row-test.true c.row-item.is c.loop-row.invariant c.in_ok-byte_row.ensures)
