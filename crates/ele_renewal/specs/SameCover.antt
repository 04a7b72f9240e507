-- In a renewed world the same marks hold each version, and for as long.
use Rattle.std.specs.Prelude.{◌≡◌, ◌↔◌, ℕ, Bool, List}
use Rattle.std.specs.List.{AllByRecursion}
use Rattle.ele_model.specs.Cover.{cover_of}
use Rattle.ele_model.specs.declared.cover.Cover.{Cover}
use Rattle.ele_model.specs.declared.rows.MarkRow.{MarkRow}
use Rattle.ele_model.specs.declared.rows.VersionRow.{VersionRow}
use Rattle.ele_model.specs.Fate.{IsMarkedBy}
use Rattle.ele_model.specs.GroupRows.{is_marked}
use Rattle.ele_model.specs.Start.{IsStart}
use Rattle.ele_model.specs.World.{World}
use Rattle.ele_renewal.specs.Renewed.{renewed, renewed_version}

-- how long marks hold the version: not at all, until a moment, or always
abbrev pub cover_in : World → VersionRow → Cover
cover_in w row = cover_of w.groups row.file row.closed row.ended

-- some mark holds it at the moment
abbrev pub is_marked_in : World → VersionRow → (at : ℕ) → Bool
is_marked_in w row at = is_marked w.groups row.file row.closed row.ended at

-- the first mark that holds it at the moment, in the first group that has one
abbrev pub IsMarkedIn : World → VersionRow → (at : ℕ) → (group : List ℕ) → MarkRow → Type 0
IsMarkedIn w row at group mark = IsMarkedBy w.groups row.file row.closed row.ended at group mark

-- marks hold the version as long, at the same moments, and at each of them it is the same mark of the group of the same name
pub record IsSameCover (w : World) (row : VersionRow) : Type 0 where
  pub cover : cover_in (renewed w) (renewed_version w row) ≡ cover_in w row
  pub marked : (at : ℕ) → is_marked_in (renewed w) (renewed_version w row) at ≡ is_marked_in w row at
  pub marked_by : (at : ℕ) (group : List ℕ) (mark : MarkRow) → IsMarkedIn (renewed w) (renewed_version w row) at group mark ↔ IsMarkedIn w row at group mark

-- each held version
abbrev pub RenewedHasSameCover : Type 0
RenewedHasSameCover = (w : World) → IsStart w → AllByRecursion (IsSameCover w) w.versions
