use Rattle.ele_dialog.proofs.Read.{reading_none}
use Rattle.ele_dialog.proofs.input.read_line.Goals as goal

pub bytes-init : goal.bytes-init
bytes-init g c = reading_none _ _ c.requires
