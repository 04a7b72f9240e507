-- Each change that is allowed leaves a well-formed world well formed.
use Rattle.ele_model.specs.Change.{Change, after_change}
use Rattle.ele_model.specs.May.{May}
use Rattle.ele_model.specs.WellFormed.{IsWellFormed}
use Rattle.ele_model.specs.World.{World}

abbrev pub ChangeKeepsWellFormed : Type 0
ChangeKeepsWellFormed = (w : World) (change : Change) → May w change → IsWellFormed w → IsWellFormed (after_change w change)
