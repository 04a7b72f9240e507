use Rattle.ele_script.proofs.Basics.{refl}
use Rattle.ele_script.proofs.Prelude.{Name}
use Rattle.ele_script.proofs.word.name.Goals as goal

pub returns-clause-kind : goal.returns-clause-kind
returns-clause-kind c = (Name c.in_ok-new.field-0, refl, (c.in_ok-new.ensures.value, c.in_ok-new.ensures.valid.0 refl))
