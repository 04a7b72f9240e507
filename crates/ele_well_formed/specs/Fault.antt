-- What the first fault says of rows that are no world that a run may begin in. The faults have an order: before each the parts hold that
-- come first.
use Rattle.std.specs.Prelude.{◌≡◌, ℕ, ◌<◌, ◌≤◌, ◌==◌, ◌||◌, true, false, List, None, length, ◌⊎◌}
use Rattle.std.specs.List.{AllByRecursion, list_any}
use Rattle.std.specs.Str.{bytes_eq}
use Rattle.ele_lists.specs.Lists.{AllLater}
use Rattle.ele_policy.specs.Policy.{IsPolicy}
use Rattle.ele_model.specs.Change.{is_idle}
use Rattle.ele_model.specs.NameRows.{is_name_of_directory}
use Rattle.ele_model.specs.NoIdleStays.{HasNoIdle}
use Rattle.ele_model.specs.OneTree.{Hangs, IsOneTree}
use Rattle.ele_model.specs.WellFormed.{AreApart, AreCounted, AreDirectories, AreDrafts, AreFiles, AreGroups, AreHandles, AreHeldRead, AreHoused, AreNames, AreOthers, ArePlaced, AreVersions, HaveCurrent, HaveEnded, IsDraft, IsFile, IsGroup, IsHandle, IsHeldRead, IsHoused, IsNameRow, IsOfLive, IsVersion, is_current}
use Rattle.ele_model.specs.World.{World, is_directory, is_live, is_writer, next_of, root}
use Rattle.ele_model.specs.Writers.{HaveWriters}
use Rattle.ele_model.specs.declared.rows.DirectoryRow.{DirectoryRow}
use Rattle.ele_model.specs.declared.rows.DraftRow.{DraftRow}
use Rattle.ele_model.specs.declared.rows.FileRow.{FileRow}
use Rattle.ele_model.specs.declared.rows.HandleRow.{HandleRow}
use Rattle.ele_model.specs.declared.rows.NameRow.{NameRow}
use Rattle.ele_well_formed.specs.Wrong.{IsMisplaced, IsWrong}
use Rattle.ele_well_formed.specs.Sharing.{AreShared, contents}
use Rattle.ele_well_formed.specs.declared.fault.FlatFault.{FlatFault}
use Rattle.ele_well_formed.specs.declared.fault.FlatFault.TheVariants as fault

-- ---- the parts, in groups

abbrev pub CountsHold : World → Type 0
CountsHold w = AreCounted w.made w.limits (length w.files) (length w.names) (length w.versions) (length w.drafts)

abbrev pub DirectoriesHold : World → Type 0
DirectoriesHold w = AreDirectories w.made.directories w.limits.directories w.directories

abbrev pub NamesHold : World → Type 0
NamesHold w = AreNames w.files w.now w.names

abbrev pub GroupsHold : World → Type 0
GroupsHold w = AreGroups w.made.groups w.files w.now w.groups

-- the counts, the directories and the files
pub record HasNumbered (w : World) : Type 0 where
  pub counted : CountsHold w
  pub directories : DirectoriesHold w
  pub files : AreFiles w.made.files w.made.versions w.files

-- and the names
pub record HasNames (w : World) : Type 0 where
  pub numbered : HasNumbered w
  pub names : NamesHold w
  pub homes : AreHoused w.directories w.names
  pub tree : AllLater AreOthers w.names
  pub rooted : IsOneTree w.names

-- and the versions, the drafts and the handles
pub record HasContents (w : World) : Type 0 where
  pub named : HasNames w
  pub versions : AreVersions w.files w.now w.versions
  pub drafts : AreDrafts w.files w.now w.drafts
  pub handles : AreHandles w.made.handles w.drafts w.handles
  pub readers : AreHeldRead w.versions w.handles
  pub writers : HaveWriters w

-- and what ties files, names and contents
pub record HasLives (w : World) : Type 0 where
  pub held : HasContents w
  pub current : HaveCurrent w
  pub ended : HaveEnded w
  pub busy : HasNoIdle w

-- ---- the faults

-- a directory's number was given, and it has a policy that can be made
pub record IsDirectory (made : ℕ) (row : DirectoryRow) : Type 0 where
  pub given : row.id ≤ made
  pub policy : IsPolicy row.default

-- the parts that come first hold, and this is wrong
pub record IsFault (First Wrong : Type 0) : Type 0 where
  pub first : First
  pub wrong : Wrong

-- a row by itself, or beside an earlier one
abbrev pub IsEither : {X : Type 0} → (X → Type 0) → (X → X → Type 0) → List X → ℕ → Type 0
IsEither Fits Stand rows at = IsWrong Fits rows at ⊎ IsMisplaced Stand rows at

-- the directory is the root or has a name
abbrev pub IsNamed : List NameRow → DirectoryRow → Type 0
IsNamed names row = ((row.id == root) || list_any (is_name_of_directory row.id) names) ≡ true

-- the name doesn't mean the root
abbrev pub IsBelow : NameRow → Type 0
IsBelow row = is_name_of_directory root row ≡ false

-- if the name is live, live names lead from the root to its directory
abbrev pub IsHung : List NameRow → NameRow → Type 0
IsHung names row = row.death ≡ None → Hangs names row.directory

-- a handle writes the draft
abbrev pub IsWritten : List HandleRow → DraftRow → Type 0
IsWritten handles draft = list_any (is_writer draft.file) handles ≡ true

-- if the file is live, its last version is held without an end
abbrev pub HasCurrent : World → FileRow → Type 0
HasCurrent w row = is_live w row.id ≡ true → list_any (is_current row.id (next_of w.files row.id)) w.versions ≡ true

abbrev pub HasFault : World → FlatFault → Type 0
-- a count is above its limit, or below what there is
HasFault w fault.Counts = CountsHold w → ⊥
-- there is no root
HasFault w fault.Root = IsFault (CountsHold w) (list_any (is_directory root) w.directories ≡ false)
-- a directory's number wasn't given, or isn't above those before it
HasFault w (fault.Directories at) = IsFault (CountsHold w × (list_any (is_directory root) w.directories ≡ true))
    (IsEither (IsDirectory w.made.directories) (λ earlier later. earlier.id < later.id) w.directories at)
-- more directories were made than may be
HasFault w fault.DirectoryCount = IsFault (CountsHold w) (w.limits.directories < w.made.directories)
HasFault w (fault.Files at) = IsFault (CountsHold w × DirectoriesHold w)
    (IsEither (IsFile w.made.files w.made.versions) (λ earlier later. earlier.id < later.id) w.files at)
HasFault w (fault.Names at) = IsFault (HasNumbered w)
    (IsEither (IsNameRow w.files w.now) AreApart w.names at)
-- the row of a name
HasFault w (fault.Homes at) = IsFault (HasNumbered w × NamesHold w)
    (IsWrong (IsHoused w.directories w.names) w.names at)
-- the row of a directory
HasFault w (fault.Nameless at) = IsFault (HasNumbered w × NamesHold w)
    (IsWrong (IsNamed w.names) w.directories at)
HasFault w (fault.Tree at) = IsFault (HasNumbered w × NamesHold w × AreHoused w.directories w.names)
    (IsMisplaced AreOthers w.names at)
HasFault w (fault.RootName at) = IsFault (HasNumbered w × NamesHold w × AreHoused w.directories w.names × AllLater AreOthers w.names)
    (IsWrong IsBelow w.names at)
-- the row of a live name whose directory is in itself, at some depth
HasFault w (fault.Cycle at) = IsFault (HasNumbered w × NamesHold w × AreHoused w.directories w.names × AllLater AreOthers w.names × AllByRecursion IsBelow w.names)
    (IsWrong (IsHung w.names) w.names at)
HasFault w (fault.Versions at) = IsFault (HasNames w)
    (IsEither (IsVersion w.files w.now) ArePlaced w.versions at)
HasFault w (fault.Drafts at) = IsFault (HasNames w × AreVersions w.files w.now w.versions)
    (IsEither (IsDraft w.files w.now) (λ earlier later. earlier.file < later.file) w.drafts at)
HasFault w (fault.Handles at) = IsFault (HasNames w × AreVersions w.files w.now w.versions × AreDrafts w.files w.now w.drafts)
    (IsEither (IsHandle w.made.handles w.drafts) (λ earlier later. earlier.number < later.number) w.handles at)
-- the row of a handle
HasFault w (fault.Readers at) = IsFault (HasNames w × AreVersions w.files w.now w.versions × AreDrafts w.files w.now w.drafts × AreHandles w.made.handles w.drafts w.handles)
    (IsWrong (λ row. IsHeldRead w.versions row.reads) w.handles at)
-- the row of a draft
HasFault w (fault.Writers at) = IsFault (HasNames w × AreVersions w.files w.now w.versions × AreDrafts w.files w.now w.drafts × AreHandles w.made.handles w.drafts w.handles × AreHeldRead w.versions w.handles)
    (IsWrong (IsWritten w.handles) w.drafts at)
-- the row of a live file
HasFault w (fault.Current at) = IsFault (HasContents w) (IsWrong (HasCurrent w) w.files at)
-- the row of a version
HasFault w (fault.Ended at) = IsFault (HasContents w × HaveCurrent w) (IsWrong (IsOfLive w.names) w.versions at)
-- the row of a file
HasFault w (fault.Idle at) = IsFault (HasContents w × HaveCurrent w × HaveEnded w) (IsWrong (λ row. is_idle w row.id ≡ false) w.files at)
HasFault w (fault.Groups at) = IsFault (HasLives w)
    (IsEither (IsGroup w.files w.now) (λ earlier later. bytes_eq earlier.name later.name ≡ false) w.groups at)
-- more groups than were made
HasFault w fault.GroupCount = IsFault (HasLives w) (w.made.groups < length w.groups)
-- the content of a version, or counted on after these, of a draft
HasFault w (fault.Blocks at) = IsFault (HasLives w × GroupsHold w) (IsMisplaced AreShared (contents w) at)
