-- A change that may be made keeps a world well formed.
use Rattle.ele_model.proofs.Formed.{in_parts, well_formed}
use Rattle.ele_model.proofs.Keeps.{change_keeps}
use Rattle.ele_model.proofs.Words.{PoliciesAreLawful, after_change}
use Rattle.ele_world.specs.ChangeKeeps.{ChangeKeepsWellFormed}

pub change_keeps_well_formed : PoliciesAreLawful → ChangeKeepsWellFormed
change_keeps_well_formed law w change may k = well_formed (after_change w change) (change_keeps w change may (in_parts law w k))
