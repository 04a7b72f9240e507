use Rattle.ele_output.proofs.Known.{puts_then}
use Rattle.ele_svg.proofs.rows.put_rows_drawing.Goals as goal

pub returns : goal.returns
returns g c =
    let page = rw (c.as_slice-forecasts.ensures.value, c.as_slice-stayings.ensures.value) at c.page_of-page.ensures in
    puts_then (rw (page, c.as_slice-forecasts.ensures.value) at c.put_frame.ensures) (
    puts_then (rw (page, c.as_slice-forecasts.ensures.value, c.as_slice-stayings.ensures.value) at c.put_rows.ensures) c.put.ensures)
