use Rattle.std.proofs.Common.{sym}
use Rattle.ele_path.proofs.Texts.{no_slash}
use Rattle.ele_path.proofs.names.name_length.Goals as goal

pub returns-in-None : goal.returns-in-None
returns-in-None c = no_slash c.args.text.now (sym c.in-None.ensures)
