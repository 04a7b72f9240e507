-- What becomes of a held version, and why.
use Rattle.std.specs.Prelude.{◌≡◌, ℕ, ◌-◌, ◌==◌, Bool, true, false, ◌&&◌, List, Option, Some, None, IsSome, filter, find, map}
use Rattle.ele_policy.specs.Cause.{IsCause}
use Rattle.ele_policy.specs.Ladder.{level_of}
use Rattle.ele_policy.specs.declared.cause.Cause.{Cause}
use Rattle.ele_policy.specs.declared.cause.Newer.{Newer}
use Rattle.ele_policy.specs.declared.policy.Policy.{Policy}
use Rattle.ele_policy.specs.declared.policy.Policy.TheVariants.{Landmarks}
use Rattle.ele_model.specs.declared.fate.Fate.{Fate}
use Rattle.ele_model.specs.declared.fate.Fate.TheVariants.{Current, Open, Marked, Kept, Due}
use Rattle.ele_model.specs.declared.rows.GroupRow.{GroupRow}
use Rattle.ele_model.specs.declared.rows.MarkRow.{MarkRow}
use Rattle.ele_model.specs.declared.rows.VersionRow.{VersionRow}
use Rattle.ele_model.specs.Due.{is_due_at, ripe_of}
use Rattle.ele_model.specs.FileView.{FileView, file_view, is_newer, is_protected}
use Rattle.ele_model.specs.GroupRows.{has_covering, is_member, keeps_at}
use Rattle.ele_model.specs.World.{World, is_open, is_version}

-- ---- why it is marked

-- for a version of the file that closed and ended then: the group is the first one, in order of making, that has the file and a mark that
-- covers the version and is in force at the moment. The mark is the first of these
pub record IsMarkedBy (groups : List GroupRow) (file closed : ℕ) (ended : Option ℕ) (at : ℕ) (name : List ℕ) (mark : MarkRow) : Type 0 where
  pub group : GroupRow
  pub first_group : find (λ g. is_member file g && has_covering closed ended at g) groups ≡ Some group
  pub named : group.name ≡ name
  pub first_mark : find (keeps_at closed ended at) group.marks ≡ Some mark

-- ---- why it is kept

-- the level of the ladder that the version has reached at the moment; no other policy has levels
abbrev pub level_reached : Option Policy → Option ℕ → ℕ → Option ℕ
level_reached (Some (Landmarks rungs)) (Some ended) at = Some (level_of rungs (at - ended))
level_reached policy ended at = None

-- ---- why it is due

abbrev pub newer_version : VersionRow → Newer
newer_version row = record { number = row.number; closed = row.closed }

-- the newer versions of the file, in order
abbrev pub newer_versions : FileView → VersionRow → List Newer
newer_versions v row = map newer_version (filter (is_newer row) v.rows)

-- the cause is why the file's policy lets the version go at the moment, beside its newer ones
pub record HasCause (v : FileView) (row : VersionRow) (at : ℕ) (cause : Cause) : Type 0 where
  pub policy : Policy
  pub policy_is : v.policy ≡ Some policy
  pub ended : ℕ
  pub has_ended : row.ended ≡ Some ended
  pub why : IsCause policy row.closed ended (newer_versions v row) at cause

-- ---- what becomes of it

-- the version has ended, is neither open nor marked, and isn't due now; it is due from `until` on, or never
pub record IsKept (w : World) (row : VersionRow) (until level : Option ℕ) : Type 0 where
  pub has_ended : IsSome row.ended
  pub unprotected : is_protected (file_view w row.file) row w.now ≡ false
  pub not_due : is_due_at w row w.now ≡ false
  pub until_is : until ≡ ripe_of w row
  pub level_is : level ≡ level_reached (file_view w row.file).policy row.ended w.now

-- it is due now, and has been since its ripe moment
pub record IsDueSince (w : World) (row : VersionRow) (since : ℕ) (cause : Cause) : Type 0 where
  pub due : is_due_at w row w.now ≡ true
  pub ripe : ripe_of w row ≡ Some since
  pub why : HasCause (file_view w row.file) row since cause

abbrev pub IsFate : World → VersionRow → Fate → Type 0
IsFate w row Current = row.ended ≡ None
IsFate w row Open = IsSome row.ended × (is_open w.handles row.file row.number ≡ true)
IsFate w row (Marked group mark) = IsSome row.ended × (is_open w.handles row.file row.number ≡ false) × IsMarkedBy w.groups row.file row.closed row.ended w.now group mark
IsFate w row (Kept until level) = IsKept w row until level
IsFate w row (Due since cause) = IsDueSince w row since cause

-- the file's version with that number is held, and has this fate
pub record HasFate (w : World) (file number : ℕ) (fate : Fate) : Type 0 where
  pub row : VersionRow
  pub held : find (is_version file number) w.versions ≡ Some row
  pub is : IsFate w row fate

-- the answer says that the version is due since then
abbrev pub says_due : ℕ → Option Fate → Bool
says_due ripe (Some (Due since cause)) = since == ripe
says_due ripe answer = false
