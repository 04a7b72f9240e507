use Rattle.ele_output.proofs.Known.{puts_then}
use Rattle.ele_svg.proofs.summary.put_body.Goals as goal

pub returns : goal.returns
returns g c =
    puts_then (rw (c.ladder_of.ensures.value, c.versions_of.ensures) at c.put_strips.ensures) (
    puts_then (rw c.moments_of.ensures at c.put_moments.ensures) (
    puts_then c.put_curves.ensures (
    puts_then (rw c.versions_of-2.ensures at c.put_newest.ensures) (
    puts_then c.put_notes.ensures (rw c.moments_of-2.ensures at c.put_labels.ensures)))))
