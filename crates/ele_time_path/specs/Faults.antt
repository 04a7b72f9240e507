-- The faults of a walk, as the world's refusals.
use Rattle.std.specs.Prelude.{◌≡◌}
use Rattle.ele_model.specs.declared.refusal.Refusal.{Refusal}
use Rattle.ele_model.specs.declared.refusal.Refusal.TheVariants as refusal
use Rattle.ele_time_path.specs.declared.fault.WalkFault.{WalkFault}
use Rattle.ele_time_path.specs.declared.fault.WalkFault.TheVariants.{Future, IsRoot, NoEntry, NotDirectory}

-- the refusal of the same name
abbrev pub refusal_of : WalkFault → Refusal
refusal_of Future = refusal.Future
refusal_of IsRoot = refusal.IsRoot
refusal_of NoEntry = refusal.NoEntry
refusal_of NotDirectory = refusal.NotDirectory

-- the refusal is that of a fault
pub record IsOfWalk (refusal : Refusal) : Type 0 where
  pub fault : WalkFault
  pub is : refusal_of fault ≡ refusal
