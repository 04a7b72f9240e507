use Rattle.ele_output.proofs.Known.{puts_then}
use Rattle.ele_svg.proofs.compared.put_compared_drawing.Goals as goal

pub returns : goal.returns
returns g c =
    puts_then (rw c.compared_page-page.ensures at c.put_head.ensures) (
    puts_then (rw c.as_slice.ensures.value at c.put_compared_heading.ensures) (
    puts_then (rw c.compared_page-page.ensures at c.put_foot.ensures) (
    puts_then (rw c.compared_page-page.ensures at c.put_compared_body.ensures) c.put.ensures)))
