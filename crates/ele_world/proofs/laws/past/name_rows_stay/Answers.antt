use Rattle.ele_model.proofs.Formed.{in_parts}
use Rattle.ele_world.proofs.NameRowsKept.{name_rows_stay}
use Rattle.ele_world.proofs.laws.past.name_rows_stay.Goals as goal

pub returns : goal.returns
returns c = λ w event k. name_rows_stay w event (in_parts c.policies_are_lawful.ensures w k)
