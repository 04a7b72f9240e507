use Rattle.ele_output.proofs.Known.{puts_then}
use Rattle.ele_svg.proofs.rows.put_rows.Goals as goal

pub returns : goal.returns
returns g c =
    puts_then c.put_ties.ensures (
    puts_then c.put_moments.ensures (
    puts_then c.put_versions.ensures (
    puts_then c.put_kept.ensures (
    puts_then c.put_notes_of.ensures c.put_labels.ensures))))
