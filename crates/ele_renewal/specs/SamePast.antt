-- What is read of the past of a renewed world is what was read before, with fresh numbers.
use Rattle.std.specs.Prelude.{◌≡◌, ℕ, List, Result, Ok, Err}
use Rattle.std.specs.Option.{option_map}
use Rattle.ele_content.specs.Content.{content_of}
use Rattle.ele_path.specs.declared.tagged.Tag.{Tag}
use Rattle.ele_path.specs.declared.tagged.Tag.TheVariants as tag
use Rattle.ele_model.specs.declared.refusal.Refusal.{Refusal}
use Rattle.ele_model.specs.declared.refusal.Refusal.TheVariants.{Forgotten}
use Rattle.ele_model.specs.declared.rows.Target.{Target}
use Rattle.ele_model.specs.declared.rows.VersionRow.{VersionRow}
use Rattle.ele_model.specs.Start.{IsStart}
use Rattle.ele_model.specs.Step.{version_then}
use Rattle.ele_model.specs.Tagged.{version_at, walk_meant}
use Rattle.ele_model.specs.Walk.{file_at}
use Rattle.ele_model.specs.WalkAt.{walk_at}
use Rattle.ele_model.specs.World.{World}
use Rattle.ele_renewal.specs.Numbers.{new_version}
use Rattle.ele_renewal.specs.Renewed.{renewed, renewed_target, renewed_version}

-- a tag without a number: now, or a moment
abbrev pub IsOfTime : Tag → Type 0
IsOfTime tag.Now = Unit {0}
IsOfTime (tag.At moment) = Unit {0}
IsOfTime (tag.Number number) = ⊥

-- where a path leads, with the fresh number; the same refusal
abbrev pub led_to : World → Result Target Refusal → Result Target Refusal
led_to w (Ok target) = Ok (renewed_target w target)
led_to w (Err refusal) = Err refusal

-- the refusal, with the fresh number of the version of the file that is held before one that isn't
abbrev pub refused_as : World → ℕ → Refusal → Refusal
refused_as w file (Forgotten before) = Forgotten (option_map (new_version w.versions file) before)
refused_as w file refusal = refusal

-- the version with fresh numbers, or the same refusal
abbrev pub found_as : World → ℕ → Result VersionRow Refusal → Result VersionRow Refusal
found_as w file (Ok row) = Ok (renewed_version w row)
found_as w file (Err refusal) = Err (refused_as w file refusal)

-- what was found after the path led to the file. If it led to none, a refusal has no number of a version
abbrev pub read_as : World → Result ℕ Refusal → Result VersionRow Refusal → Result VersionRow Refusal
read_as w (Ok file) found = found_as w file found
read_as w (Err refusal) (Ok row) = Ok (renewed_version w row)
read_as w (Err refusal) (Err other) = Err other

-- each path leads to the same target at each moment and now, and finds the same version of it; a restore means the same version
pub record IsSamePast (w : World) : Type 0 where
  pub leads : (path : List (List ℕ)) (t : Tag) → IsOfTime t → walk_meant (renewed w) path t ≡ led_to w (walk_meant w path t)
  pub reads : (path : List (List ℕ)) (t : Tag) → IsOfTime t
      → version_at (renewed w) (record { path = path; tag = t }) ≡ read_as w (file_at (walk_meant w path t)) (version_at w (record { path = path; tag = t }))
  pub restores : (path : List (List ℕ)) (moment : ℕ)
      → version_then (renewed w) path moment ≡ read_as w (file_at (walk_at w.names moment w.now path)) (version_then w path moment)

abbrev pub RenewedHasSamePast : Type 0
RenewedHasSamePast = (w : World) → IsStart w → IsSamePast w

-- a version has its moments and its bytes
pub record IsSameVersion (w : World) (row : VersionRow) : Type 0 where
  pub opened : (renewed_version w row).opened ≡ row.opened
  pub closed : (renewed_version w row).closed ≡ row.closed
  pub ended : (renewed_version w row).ended ≡ row.ended
  pub bytes : content_of (renewed_version w row).cells ≡ content_of row.cells

abbrev pub RenewedVersionIsSame : Type 0
RenewedVersionIsSame = (w : World) (row : VersionRow) → IsSameVersion w row
