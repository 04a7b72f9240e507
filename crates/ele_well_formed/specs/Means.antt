-- What a name row means, and the lives of one name. No public clause cites this module.
use Rattle.std.specs.Prelude.{◌≡◌, ℕ, ◌≤◌, ◌<◌, ◌+◌, Bool, true, false, cond, ◌==◌, ◌&&◌, ◌||◌, nat_lt, List, Option, Some, None, IfSome, is_none, is_some}
use Rattle.std.specs.List.{AllByRecursion}
use Rattle.std.specs.Str.{bytes_eq}
use Rattle.std.specs.Option.{option_map}
use Rattle.ele_lists.specs.Last.{last_passing}
use Rattle.ele_lists.specs.Lists.{AllLater}
use Rattle.ele_model.specs.NameRows.{is_live_directory}
use Rattle.ele_model.specs.WellFormed.{is_reached}
use Rattle.ele_model.specs.World.{next_of}
use Rattle.ele_model.specs.declared.rows.FileRow.{FileRow}
use Rattle.ele_model.specs.declared.rows.GroupRow.{GroupRow}
use Rattle.ele_model.specs.declared.rows.MarkRow.{MarkRow}
use Rattle.ele_model.specs.declared.rows.NameRow.{NameRow}
use Rattle.ele_model.specs.declared.rows.Reads.{Reads}
use Rattle.ele_model.specs.declared.rows.Reads.TheVariants.{Draft, Version}
use Rattle.ele_model.specs.declared.rows.Target.{Target}
use Rattle.ele_model.specs.declared.rows.Target.TheVariants.{File, Directory}
use Rattle.ele_model.specs.declared.rows.VersionRow.{VersionRow}

abbrev pub directory_in : Target → Option ℕ
directory_in (File file) = None
directory_in (Directory id) = Some id

abbrev pub file_in : Target → Option ℕ
file_in (File file) = Some file
file_in (Directory id) = None

-- the directory of a live name
abbrev pub live_directory : NameRow → Option ℕ
live_directory row = cond (is_some row.death) None (directory_in row.target)

-- a live name is in the root or in a directory that has a live name
abbrev pub HasHome : List NameRow → NameRow → Type 0
HasHome names row = row.death ≡ None → is_reached names row.directory ≡ true

-- the directory that has the directory's live name, the last one if there are several
abbrev pub parent_of : List NameRow → ℕ → Option ℕ
parent_of names directory = option_map (λ row. row.directory) (last_passing (is_live_directory directory) names)

-- the file of a live name
abbrev pub live_file : NameRow → Option ℕ
live_file row = cond (is_some row.death) None (file_in row.target)

-- the file whose draft is written
abbrev pub file_written : Reads → Option ℕ
file_written (Draft file) = Some file
file_written (Version file number) = None

-- the file of a version without an end
abbrev pub endless : VersionRow → Option ℕ
endless row = cond (is_some row.ended) None (Some row.file)

abbrev pub is_endless : ℕ → VersionRow → Bool
is_endless file row = (row.file == file) && is_none row.ended

-- the row was dead by the moment
abbrev pub IsDeadBy : NameRow → ℕ → Type 0
IsDeadBy row moment = (death : ℕ) × (row.death ≡ Some death) × (death ≤ moment)

-- the row wasn't dead before its birth
abbrev pub IsLife : NameRow → Type 0
IsLife row = IfSome row.death (λ death. row.birth ≤ death)

-- the version's end isn't before its closing
abbrev pub IsSpan : VersionRow → Type 0
IsSpan row = IfSome row.ended (λ ended. row.closed ≤ ended)

-- the moments of a version are in order, up to the moment
pub record AreMoments (now : ℕ) (row : VersionRow) : Type 0 where
  pub opened : row.opened ≤ row.closed
  pub closed : row.closed ≤ now
  pub ended : IfSome row.ended (λ ended. (row.closed ≤ ended) × (ended ≤ now))

-- the version's number is below the next one, and right before it if it has no end
pub record IsNumbered (next : ℕ) (row : VersionRow) : Type 0 where
  pub first : 1 ≤ row.number
  pub numbered : row.number < next
  pub open_end : row.ended ≡ None → row.number + 1 ≡ next

-- the version comes before the number of the file
abbrev pub is_before : ℕ → ℕ → VersionRow → Bool
is_before file number row = nat_lt row.file file || ((row.file == file) && nat_lt row.number number)

-- a mark's moment is before now and before its end
pub record IsMark (now : ℕ) (mark : MarkRow) : Type 0 where
  pub past : mark.at < now
  pub lasting : IfSome mark.until (λ end. mark.at < end)

pub record AreMarks (now : ℕ) (marks : List MarkRow) : Type 0 where
  pub each : AllByRecursion (IsMark now) marks
  pub once : AllLater (λ earlier later. (earlier.at == later.at) ≡ false) marks

pub record AreMembers (files : List FileRow) (members : List ℕ) : Type 0 where
  pub there : AllByRecursion (λ member. 0 < next_of files member) members
  pub apart : AllLater (λ earlier later. (earlier == later) ≡ false) members

abbrev pub AreNamesApart : GroupRow → GroupRow → Type 0
AreNamesApart earlier later = bytes_eq earlier.name later.name ≡ false
