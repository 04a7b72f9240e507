use Rattle.std.proofs.Common.{sym}
use Rattle.ele_path.proofs.Tags.{unmarked}
use Rattle.ele_path.proofs.tagged.path_length.Goals as goal

pub returns-in-None : goal.returns-in-None
returns-in-None c = unmarked c.args.word.now (sym c.in-None.ensures)
