-- In a renewed world the same becomes of each version, and for the same cause.
use Rattle.std.specs.Prelude.{ℕ}
use Rattle.ele_policy.specs.declared.cause.Cause.{Cause}
use Rattle.ele_policy.specs.declared.cause.Cause.TheVariants.{AtOnce, Age, Displaced}
use Rattle.ele_model.specs.declared.fate.Fate.{Fate}
use Rattle.ele_model.specs.declared.fate.Fate.TheVariants.{Current, Open, Marked, Kept, Due}
use Rattle.ele_model.specs.Fate.{HasFate}
use Rattle.ele_model.specs.Start.{IsStart}
use Rattle.ele_model.specs.World.{World}
use Rattle.ele_renewal.specs.Numbers.{new_file, new_version}
use Rattle.ele_renewal.specs.Renewed.{IsClosed, renewed}

-- the cause, with the fresh number of the newer version of the file that displaces one
abbrev pub renewed_cause : World → (file : ℕ) → Cause → Cause
renewed_cause w file AtOnce = AtOnce
renewed_cause w file (Age seconds) = Age seconds
renewed_cause w file (Displaced level by) = Displaced level (new_version w.versions file by)

-- the fate of a version of the file. Only a cause has a number
abbrev pub renewed_fate : World → (file : ℕ) → Fate → Fate
renewed_fate w file Current = Current
renewed_fate w file Open = Open
renewed_fate w file (Marked group mark) = Marked group mark
renewed_fate w file (Kept until level) = Kept until level
renewed_fate w file (Due since cause) = Due since (renewed_cause w file cause)

-- each held version has its fate
abbrev pub RenewedHasSameFates : Type 0
RenewedHasSameFates =
    (w : World) → IsStart w → IsClosed w
    → (file number : ℕ) (fate : Fate) → HasFate w file number fate → HasFate (renewed w) (new_file w.files file) (new_version w.versions file number) (renewed_fate w file fate)
