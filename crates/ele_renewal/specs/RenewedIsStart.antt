-- A run may begin in a renewed world.
use Rattle.ele_model.specs.Start.{IsStart}
use Rattle.ele_model.specs.World.{World}
use Rattle.ele_renewal.specs.Renewed.{IsClosed, renewed}

abbrev pub RenewedIsStart : Type 0
RenewedIsStart = (w : World) → IsStart w → IsClosed w → IsStart (renewed w)
