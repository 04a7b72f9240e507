use Rattle.ele_output.proofs.Known.{puts_then}
use Rattle.ele_audit.proofs.text.put_version.Goals as goal

pub returns : goal.returns
returns g c = puts_then (rw (c.seconds.ensures.value, c.file_number.ensures) at c.put_numbers.ensures) (rw c.version_number.ensures at c.put_with_number.ensures)
