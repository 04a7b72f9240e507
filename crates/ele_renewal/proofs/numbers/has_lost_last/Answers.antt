use Rattle.ele_renewal.proofs.Searches.{lost_if_same}
use Rattle.ele_renewal.proofs.Words.{arith, ◌-◌}
use Rattle.ele_renewal.proofs.numbers.has_lost_last.Goals as goal

pub returns : goal.returns
returns c =
    let row = c.args.row.now in
    rw (c.eq.ensures, c.new_version.ensures.number, c.new_version-2.ensures.number, c.before-2.ensures) (lost_if_same c.args.rows.now row.id (row.next - 1) row.next (omega (arith, c.requires.made)))
