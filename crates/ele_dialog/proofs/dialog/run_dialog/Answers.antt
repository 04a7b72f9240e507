use Rattle.std.proofs.Common.{inr}
use Rattle.ele_dialog.proofs.dialog.run_dialog.Goals as goal

pub returns : goal.returns
returns g c = inr (rw c.in-Ok.ensures at c.run_printed.ensures)
