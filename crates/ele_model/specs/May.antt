-- What each change requires, so that it leaves a well-formed world.
use Rattle.std.specs.Prelude.{◌≡◌, ℕ, ◌+◌, ◌<◌, ◌≤◌, nat_le, true, false, List, length, Some, is_some, is_none, find}
use Rattle.std.specs.List.{list_any}
use Rattle.std.specs.Option.{option_map_or}
use Rattle.ele_content.specs.declared.cell.Cell.{Cell}
use Rattle.ele_content.specs.Content.{longest_content}
use Rattle.ele_moment.specs.Last.{last_moment}
use Rattle.ele_policy.specs.Policy.{IsPolicy}
use Rattle.ele_policy.specs.declared.policy.Policy.{Policy}
use Rattle.ele_model.specs.declared.rows.MarkRow.{MarkRow}
use Rattle.ele_model.specs.declared.rows.Reads.{Reads}
use Rattle.ele_model.specs.declared.rows.Target.{Target}
use Rattle.ele_model.specs.declared.rows.Target.TheVariants.{File, Directory}
use Rattle.ele_model.specs.declared.rows.VersionRow.{VersionRow}
use Rattle.ele_model.specs.Change.{Change, Time, SetDirectoryDefault, MakeDirectory, EndName, AddName, MoveName, EndFileName, Revive, MakeFile, SetFilePolicy, Append, Take, StartDraft, WriteDraft, TruncateDraft, EndDraft, OpenHandle, MakeGroup, AddMember, AddMark}
use Rattle.ele_model.specs.GroupRows.{has_group, has_member, is_marked_at}
use Rattle.ele_model.specs.NameRows.{is_live_in, is_live_directory}
use Rattle.ele_model.specs.Walk.{live_target}
use Rattle.ele_model.specs.WellFormed.{IsThere, IsDirectoryThere, has_directory, is_reached, IsContent, AreWrittenBy, IsReadable, IsHeldRead}
use Rattle.ele_model.specs.World.{World, next_of, is_version, is_live, is_open, has_draft, is_writer}

-- the limit of versions allows another one
abbrev pub MayMakeVersion : World → Type 0
MayMakeVersion w = w.made.versions + length w.drafts < w.limits.versions

-- a new name, in a directory that is there
pub record MayName (w : World) (directory : ℕ) (name : List ℕ) : Type 0 where
  pub room : w.made.names < w.limits.names
  pub free : is_some (live_target w.names directory name) ≡ false
  pub home : has_directory w.directories directory ≡ true
  pub reached : is_reached w.names directory ≡ true

pub record MayMakeDirectory (w : World) (directory : ℕ) (name : List ℕ) (id : ℕ) (policy : Policy) : Type 0 where
  pub next : id ≡ w.made.directories + 1
  pub directories : w.made.directories < w.limits.directories
  pub named : MayName w directory name
  pub valid : IsPolicy policy

-- the name is of a directory that has no live name in it
pub record MayEnd (w : World) (directory : ℕ) (name : List ℕ) : Type 0 where
  pub id : ℕ
  pub stands : live_target w.names directory name ≡ Some (Directory id)
  pub empty : list_any (is_live_in id) w.names ≡ false

-- the target is a file that has a live name, or a directory that has none
abbrev pub MayHaveMore : World → Target → Type 0
MayHaveMore w (File file) = is_live w file ≡ true
MayHaveMore w (Directory id) = list_any (is_live_directory id) w.names ≡ false

pub record MayAdd (w : World) (directory : ℕ) (name : List ℕ) (target : Target) : Type 0 where
  pub named : MayName w directory name
  pub there : IsThere w.files target
  pub housed : IsDirectoryThere w.directories target
  pub more : MayHaveMore w target

-- the old name means the target that is moved
pub record MayMove (w : World) (from : ℕ) (old : List ℕ) (to : ℕ) (new : List ℕ) (target : Target) : Type 0 where
  pub stands : live_target w.names from old ≡ Some target
  pub named : MayName w to new

-- the file has no live name, and its version of that number is held
pub record MayRevive (w : World) (directory : ℕ) (name : List ℕ) (file number : ℕ) : Type 0 where
  pub named : MayName w directory name
  pub nameless : is_live w file ≡ false
  pub row : VersionRow
  pub held : find (is_version file number) w.versions ≡ Some row
  pub room : MayMakeVersion w

pub record MayMake (w : World) (directory : ℕ) (name : List ℕ) (id : ℕ) (policy : Policy) : Type 0 where
  pub next : id ≡ w.made.files + 1
  pub files : w.made.files < w.limits.files
  pub named : MayName w directory name
  pub room : MayMakeVersion w
  pub valid : IsPolicy policy

pub record MayAppend (w : World) (file opened : ℕ) (cells : List Cell) : Type 0 where
  pub there : 0 < next_of w.files file
  pub by_now : opened ≤ w.now
  pub room : MayMakeVersion w
  pub content : IsContent cells
  pub written : AreWrittenBy (next_of w.files file) cells

-- the version has ended, if it is held, and no handle reads it
pub record MayTake (w : World) (file number : ℕ) : Type 0 where
  pub ended : (row : VersionRow) → find (is_version file number) w.versions ≡ Some row → is_none row.ended ≡ false
  pub unread : is_open w.handles file number ≡ false

pub record MayStart (w : World) (file : ℕ) : Type 0 where
  pub there : 0 < next_of w.files file
  pub none : has_draft w file ≡ false
  pub room : MayMakeVersion w

pub record MayOpen (w : World) (number : ℕ) (reads : Reads) : Type 0 where
  pub next : number ≡ w.made.handles + 1
  pub room : w.made.handles < w.limits.handles
  pub drafted : IsReadable w.drafts reads
  pub held : IsHeldRead w.versions reads

-- no group has the name yet
pub record MayGroup (w : World) (name : List ℕ) : Type 0 where
  pub room : w.made.groups < w.limits.groups
  pub free : has_group w.groups name ≡ false

-- the file is there, and not yet in the group
pub record MayJoin (w : World) (name : List ℕ) (file : ℕ) : Type 0 where
  pub there : 0 < next_of w.files file
  pub room : w.made.members < w.limits.members
  pub free : has_member w.groups name file ≡ false

-- the mark's moment is before now, and the group has no mark at it; its end is after now, if it has one
pub record MayMark (w : World) (name : List ℕ) (mark : MarkRow) : Type 0 where
  pub past : mark.at < w.now
  pub ahead : option_map_or (λ end. nat_le end w.now) mark.until false ≡ false
  pub room : w.made.marks < w.limits.marks
  pub free : is_marked_at w.groups name mark.at ≡ false

-- the requirement of each change
abbrev pub May : World → Change → Type 0
May w (Time to) = (w.now ≤ to) × (to ≤ last_moment)
May w (SetDirectoryDefault directory policy) = IsPolicy policy
May w (MakeDirectory directory name id policy) = MayMakeDirectory w directory name id policy
May w (EndName directory name) = MayEnd w directory name
May w (AddName directory name target) = MayAdd w directory name target
May w (MoveName from old to new target) = MayMove w from old to new target
May w (EndFileName directory name file) = live_target w.names directory name ≡ Some (File file)
May w (Revive directory name file number) = MayRevive w directory name file number
May w (MakeFile directory name id policy) = MayMake w directory name id policy
May w (SetFilePolicy file policy) = IsPolicy policy
May w (Append file opened cells) = MayAppend w file opened cells
May w (Take file number) = MayTake w file number
May w (StartDraft file) = MayStart w file
May w (WriteDraft file offset bytes) = offset + length bytes ≤ longest_content
May w (TruncateDraft file size) = size ≤ longest_content
May w (EndDraft file) = list_any (is_writer file) w.handles ≡ false
May w (OpenHandle number reads) = MayOpen w number reads
May w (MakeGroup name) = MayGroup w name
May w (AddMember name file) = MayJoin w name file
May w (AddMark name mark) = MayMark w name mark
May w change = Unit {0}
