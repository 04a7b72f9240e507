-- The files of a renewed world use the same.
use Rattle.std.specs.Prelude.{◌≡◌}
use Rattle.ele_policy.specs.declared.policy.Kind.{Kind}
use Rattle.ele_model.specs.Start.{IsStart}
use Rattle.ele_model.specs.Usage.{usage_of}
use Rattle.ele_model.specs.World.{World}
use Rattle.ele_renewal.specs.Renewed.{IsClosed, renewed}

-- for each kind of policy as many files, versions, bytes and different blocks
abbrev pub RenewedHasSameUsage : Type 0
RenewedHasSameUsage = (w : World) → IsStart w → IsClosed w → (k : Kind) → usage_of (renewed w) k ≡ usage_of w k
