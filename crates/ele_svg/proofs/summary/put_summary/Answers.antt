use Rattle.ele_output.proofs.Known.{puts_then}
use Rattle.ele_svg.proofs.summary.put_summary.Goals as goal

pub returns : goal.returns
returns g c =
    puts_then (rw (c.highest_of-highest.ensures.value, c.summary_page-page.ensures) at c.put_frame.ensures) (
    puts_then (rw (c.highest_of-highest.ensures.value, c.summary_page-page.ensures) at c.put_body.ensures) c.put.ensures)
