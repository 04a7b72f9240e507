-- In a renewed world the same versions are due, now and later.
use Rattle.std.specs.Prelude.{◌≡◌, ℕ, map}
use Rattle.ele_due.specs.declared.key.Key.{Key}
use Rattle.ele_model.specs.Change.{Time, after_change}
use Rattle.ele_model.specs.Scan.{scan}
use Rattle.ele_model.specs.Start.{IsStart}
use Rattle.ele_model.specs.World.{World}
use Rattle.ele_renewal.specs.Numbers.{new_file, new_version}
use Rattle.ele_renewal.specs.Renewed.{IsClosed, renewed}

-- the key of a version, with fresh numbers
abbrev pub renewed_key : World → Key → Key
renewed_key w key = record key { file = new_file w.files key.file; number = new_version w.versions key.file key.number }

-- at each moment the same versions are due, in the same order
abbrev pub RenewedHasSameScan : Type 0
RenewedHasSameScan =
    (w : World) → IsStart w → IsClosed w
    → (moment : ℕ) → scan (after_change (renewed w) (Time moment)) ≡ map (renewed_key w) (scan (after_change w (Time moment)))
