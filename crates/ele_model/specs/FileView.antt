-- One file as its policy sees it: all that the fates of its versions depend on.
use Rattle.std.specs.Prelude.{ℕ, ◌==◌, nat_lt, Bool, false, not, ◌&&◌, ◌||◌, ◌++◌, List, Option, Some, None, filter, map, option_and_then, if◌then◌else◌}
use Rattle.std.specs.List.{list_any, filter_map}
use Rattle.std.specs.Option.{option_map_or}
use Rattle.ele_policy.specs.declared.policy.Policy.{Policy}
use Rattle.ele_policy.specs.Ripe.{Beside, is_due_by, candidates, earliest_of}
use Rattle.ele_model.specs.declared.rows.HandleRow.{HandleRow}
use Rattle.ele_model.specs.declared.rows.Reads.{Reads}
use Rattle.ele_model.specs.declared.rows.Reads.TheVariants.{Draft, Version}
use Rattle.ele_model.specs.declared.rows.VersionRow.{VersionRow}
use Rattle.ele_model.specs.declared.rows.MarkRow.{MarkRow}
use Rattle.ele_model.specs.GroupRows.{covers_moment, keeps_at, marks_over}
use Rattle.ele_model.specs.World.{World, policy_of, is_live}

-- its policy, if the file is there; its held versions by number; whether it is live; the numbers of the versions that handles read; and the
-- marks of groups that have it
pub record FileView : Type 0 where
  pub policy : Option Policy
  pub rows : List VersionRow
  pub live : Bool
  pub pinned : List ℕ
  pub marks : List MarkRow

abbrev pub is_version_of : ℕ → VersionRow → Bool
is_version_of file row = row.file == file

-- the number of the file's version that the handle reads, if it reads one
abbrev pub number_read : ℕ → Reads → Option ℕ
number_read file (Draft written) = None
number_read file (Version read number) = if read == file then Some number else None

-- the numbers of the file's versions that handles read
abbrev pub numbers_read : List HandleRow → ℕ → List ℕ
numbers_read rows file = filter_map (λ row. number_read file row.reads) rows

abbrev pub file_view : World → ℕ → FileView
file_view w file = record {
  policy = policy_of w.files file;
  rows = filter (is_version_of file) w.versions;
  live = is_live w file;
  pinned = numbers_read w.handles file;
  marks = marks_over w.groups file;
}

abbrev pub is_newer : VersionRow → VersionRow → Bool
is_newer row other = nat_lt row.number other.number

abbrev pub closings : List VersionRow → List ℕ
closings rows = map (λ row. row.closed) rows

-- what the policy sees beside a version of the file
abbrev pub beside : FileView → VersionRow → Beside
beside v row = record { newer = closings (filter (is_newer row) v.rows); live = v.live }

-- the version is open, as a handle reads it, or marked: it was current at one of the marks that are in force at the moment
abbrev pub is_protected : FileView → VersionRow → ℕ → Bool
is_protected v row at = list_any (λ number. number == row.number) v.pinned || list_any (keeps_at row.closed row.ended at) v.marks

-- the version has ended by that moment, isn't protected then, and the file's policy lets it go
abbrev pub due_in : FileView → VersionRow → ℕ → Bool
due_in v row at =
    not (is_protected v row at)
    && option_map_or (λ policy. option_map_or (λ ended. is_due_by policy row.closed (beside v row) ended at) row.ended false) v.policy false

-- the ends of the marks that cover that time, of those that have an end
abbrev pub ends_over : ℕ → Option ℕ → List MarkRow → List ℕ
ends_over closed ended marks = filter_map (λ mark. mark.until) (filter (λ mark. covers_moment closed ended mark.at) marks)

-- the earliest moment at which the version is due, among those that the policy names and the ends of marks that cover it; none past the
-- last moment
abbrev pub ripe_in : FileView → VersionRow → Option ℕ
ripe_in v row =
    option_and_then (λ policy. option_and_then (λ ended. earliest_of (due_in v row) (candidates policy ended ++ ends_over row.closed row.ended v.marks)) row.ended) v.policy
