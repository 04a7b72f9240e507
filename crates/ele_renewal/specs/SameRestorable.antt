-- In a renewed world the same names are restorable.
use Rattle.std.specs.Prelude.{◌≡◌, map}
use Rattle.ele_model.specs.declared.rows.DeletedName.{DeletedName}
use Rattle.ele_model.specs.Restorable.{restorable}
use Rattle.ele_model.specs.Start.{IsStart}
use Rattle.ele_model.specs.World.{World}
use Rattle.ele_renewal.specs.Numbers.{new_directory}
use Rattle.ele_renewal.specs.Renewed.{renewed, renewed_target}

-- the name with the fresh numbers of its directory and of what it last meant
abbrev pub renewed_deleted : World → DeletedName → DeletedName
renewed_deleted w row = record row { directory = new_directory w.directories row.directory; target = renewed_target w row.target }

-- in the same order
abbrev pub RenewedHasSameRestorable : Type 0
RenewedHasSameRestorable = (w : World) → IsStart w → restorable (renewed w) ≡ map (renewed_deleted w) (restorable w)
