-- A number means one version: it reads, describes and opens the one of that number and no other. If that was removed the answer is
-- `Forgotten` with the greatest held number below, and if it never was, `NoVersion`.
use Rattle.std.specs.Prelude.{◌≡◌, ◌⊎◌, ℕ, ◌<◌, ◌≤◌, true, List, Option, Some, None, Ok, find}
use Rattle.ele_path.specs.declared.tagged.Tag.TheVariants.{Number}
use Rattle.ele_path.specs.declared.tagged.TaggedPath.{TaggedPath}
use Rattle.ele_model.specs.declared.refusal.Refusal.TheVariants.{Forgotten, NoVersion}
use Rattle.ele_model.specs.declared.rows.VersionRow.{VersionRow}
use Rattle.ele_world.specs.Answered.{AnswersVersion, Refuses}
use Rattle.ele_model.specs.Walk.{file_now}
use Rattle.ele_model.specs.WellFormed.{IsWellFormed}
use Rattle.ele_model.specs.World.{World, is_held, is_version, next_of}

-- the greatest held number of the file below this one, if there is one
pub record IsGreatestBelow (w : World) (file number : ℕ) (before : Option ℕ) : Type 0 where
  pub held : (other : ℕ) → before ≡ Some other → (is_held w file other ≡ true) × (other < number)
  pub greatest : (other : ℕ) → is_held w file other ≡ true → other < number → (last : ℕ) × (before ≡ Some last) × (other ≤ last)

pub record MeansNumber (w : World) (tagged : TaggedPath) (file number : ℕ) : Type 0 where
  pub held : (row : VersionRow) → find (is_version file number) w.versions ≡ Some row → AnswersVersion w tagged row
  pub gone : find (is_version file number) w.versions ≡ None → 0 < number → number < next_of w.files file
      → (before : Option ℕ) × IsGreatestBelow w file number before × Refuses w tagged (Forgotten before)
  pub never : (number ≡ 0) ⊎ (next_of w.files file ≤ number) → Refuses w tagged NoVersion

abbrev pub NumberMeans : Type 0
NumberMeans =
    (w : World) (path : List (List ℕ)) (file number : ℕ) → IsWellFormed w → file_now w.names path ≡ Ok file
    → MeansNumber w (record { path = path; tag = Number number }) file number
