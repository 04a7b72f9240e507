use Rattle.ele_output.proofs.Known.{puts_then}
use Rattle.ele_commands.proofs.word.put_tagged.Goals as goal

pub returns : goal.returns
returns g c = puts_then c.put_path.ensures c.put_tag.ensures
