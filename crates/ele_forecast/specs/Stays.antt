-- Which versions of a file stay.
use Rattle.std.specs.Prelude.{◌≡◌, ℕ, nat_le, List, filter, map}
use Rattle.ele_policy.specs.declared.policy.Policy.{Policy}
use Rattle.ele_model.specs.declared.rows.VersionRow.{VersionRow}
use Rattle.ele_model.specs.Due.{kept_rows}
use Rattle.ele_model.specs.FileView.{file_view, is_version_of}
use Rattle.ele_model.specs.World.{World}
use Rattle.ele_forecast.specs.FileOf.{IsFileOf}

-- the closings up to the moment
abbrev pub come_by : ℕ → List ℕ → List ℕ
come_by at closings = filter (λ closed. nat_le closed at) closings

-- the numbers of the file's versions among these
abbrev pub numbers_of : ℕ → List VersionRow → List ℕ
numbers_of file rows = map (λ row. row.number) (filter (is_version_of file) rows)

-- in each world in which a file under the policy has these closings up to now, the numbers of its versions that aren't due are these
abbrev pub AreKept : Policy → List ℕ → ℕ → List ℕ → Type 0
AreKept policy closings at numbers =
    (w : World) (file : ℕ) → w.now ≡ at → IsFileOf policy (come_by at closings) (file_view w file)
    → numbers ≡ numbers_of file (kept_rows w)
