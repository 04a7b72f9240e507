-- A held version has one fate. The fate is `Due` exactly if the scan has the version's key, since the moment of the key.
use Rattle.std.specs.Prelude.{◌≡◌, ℕ, Some}
use Rattle.ele_due.specs.HasKey.{has_key}
use Rattle.ele_model.specs.declared.fate.Fate.{Fate}
use Rattle.ele_model.specs.Fate.{HasFate, says_due}
use Rattle.ele_model.specs.Scan.{scan}
use Rattle.ele_model.specs.WellFormed.{IsWellFormed}
use Rattle.ele_model.specs.World.{World}

abbrev pub OneFate : Type 0
OneFate = (w : World) (file number : ℕ) (one other : Fate) → HasFate w file number one → HasFate w file number other → one ≡ other

abbrev pub DueFate : Type 0
DueFate =
    (w : World) → IsWellFormed w → (file number : ℕ) (fate : Fate) → HasFate w file number fate
    → (ripe : ℕ) → has_key (record { ripe = ripe; file = file; number = number }) (scan w) ≡ says_due ripe (Some fate)
