use Rattle.ele_script.proofs.Basics.{refl}
use Rattle.ele_script.proofs.Prelude.{Path}
use Rattle.ele_script.proofs.word.path.Goals as goal

pub returns-clause-kind : goal.returns-clause-kind
returns-clause-kind c = (Path c.in_ok-read.field-0, refl, c.in_ok-read.ensures.found)
