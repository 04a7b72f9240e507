-- Whether a pass was stopped.
use Rattle.std.specs.Prelude.{Bool, true, false}
use Rattle.ele_model.specs.declared.pass.PassEnd.{PassEnd}
use Rattle.ele_model.specs.declared.pass.PassEnd.TheVariants.{Finished, Budget, Stopped}

abbrev pub is_stopped : PassEnd → Bool
is_stopped (Finished removed) = false
is_stopped (Budget removed) = false
is_stopped (Stopped stop removed) = true
