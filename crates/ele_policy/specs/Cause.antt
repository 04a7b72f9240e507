-- Why a policy lets a version go.
use Rattle.std.specs.Prelude.{◌≡◌, ℕ, ◌-◌, List, Option, Some, find}
use Rattle.std.specs.Option.{option_map}
use Rattle.ele_policy.specs.declared.cause.Cause.{Cause}
use Rattle.ele_policy.specs.declared.cause.Cause.TheVariants.{AtOnce, Age, Displaced}
use Rattle.ele_policy.specs.declared.cause.Newer.{Newer}
use Rattle.ele_policy.specs.declared.policy.Policy.{Policy}
use Rattle.ele_policy.specs.declared.policy.Policy.TheVariants.{One, Safe, Landmarks}
use Rattle.ele_policy.specs.Ladder.{Rung, level_of, rung_at, shares}

-- the number of the nearest of the newer versions that closed in the span of the rung in which this one closed
abbrev pub displacing : List Newer → ℕ → Rung → Option ℕ
displacing newer closed rung = option_map (λ other. other.number) (find (λ other. shares closed other.closed rung) newer)

-- at the moment the version's age has reached the level of the ladder, and in its span of that level the newer version displaces it
pub record IsDisplaced (policy : Policy) (closed ended : ℕ) (newer : List Newer) (at level by : ℕ) : Type 0 where
  pub rungs : List Rung
  pub ladder : policy ≡ Landmarks rungs
  pub reached : level ≡ level_of rungs (at - ended)
  pub rung : Rung
  pub at_level : rung_at rungs level ≡ Some rung
  pub by_is : displacing newer closed rung ≡ Some by

-- the file is kept safe for so many seconds, with whatever floor
pub record IsSafeFor (policy : Policy) (seconds : ℕ) : Type 0 where
  pub floor : ℕ
  pub safe : policy ≡ Safe seconds floor

-- the cause is why the policy lets a version go at the moment; the version closed and ended then, with these newer held ones, in order
abbrev pub IsCause : Policy → ℕ → ℕ → List Newer → ℕ → Cause → Type 0
IsCause policy closed ended newer at AtOnce = policy ≡ One
IsCause policy closed ended newer at (Age seconds) = IsSafeFor policy seconds
IsCause policy closed ended newer at (Displaced level by) = IsDisplaced policy closed ended newer at level by
