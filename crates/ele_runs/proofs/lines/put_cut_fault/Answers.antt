use Rattle.ele_output.proofs.Known.{puts_then}
use Rattle.ele_runs.proofs.lines.put_cut_fault.Goals as goal

pub returns : goal.returns
returns g c = puts_then (rw (c.options.ensures, c.lines.ensures) at c.put_front.ensures) c.put_fault.ensures
