-- What is true of every world of a run: fifteen parts, each about only the rows that it takes, and at the end all together.
use Rattle.std.specs.Prelude.{◌≡◌, ℕ, ◌+◌, ◌==◌, ◌<◌, ◌≤◌, ◌&&◌, ◌||◌, Bool, true, false, List, length, IfSome, Some, None, is_none}
use Rattle.std.specs.List.{list_any, AllByRecursion}
use Rattle.std.specs.Str.{bytes_eq}
use Rattle.ele_content.specs.declared.cell.Cell.{Cell}
use Rattle.ele_content.specs.Content.{content_of, longest_content, fill_slots}
use Rattle.ele_moment.specs.Last.{last_moment}
pub use Rattle.ele_lists.specs.Lists.{AllLater}
use Rattle.ele_policy.specs.Policy.{IsPolicy}
use Rattle.ele_model.specs.Bounds.{Bounds, AreBounds}
use Rattle.ele_model.specs.declared.limits.Counts.{Counts}
use Rattle.ele_model.specs.declared.rows.DirectoryRow.{DirectoryRow}
use Rattle.ele_model.specs.declared.rows.DraftRow.{DraftRow}
use Rattle.ele_model.specs.declared.rows.FileRow.{FileRow}
use Rattle.ele_model.specs.declared.rows.GroupRow.{GroupRow}
use Rattle.ele_model.specs.declared.rows.HandleRow.{HandleRow}
use Rattle.ele_model.specs.declared.rows.NameRow.{NameRow}
use Rattle.ele_model.specs.declared.rows.Reads.{Reads}
use Rattle.ele_model.specs.declared.rows.Reads.TheVariants.{Draft, Version}
use Rattle.ele_model.specs.declared.rows.Target.{Target}
use Rattle.ele_model.specs.declared.rows.Target.TheVariants.{File, Directory}
use Rattle.ele_model.specs.declared.rows.VersionRow.{VersionRow}
use Rattle.ele_model.specs.NameRows.{is_name_of_directory, is_live_directory}
use Rattle.ele_model.specs.World.{World, root, is_directory, next_of, is_live_name_of, is_live, is_version, is_draft, is_version_after}

-- no count is above its limit, and the counts include all the rows and drafts that there are
pub record AreCounted (made : Counts) (limits : Bounds) (files names versions drafts : ℕ) : Type 0 where
  pub files_made : made.files ≤ limits.files
  pub names_made : made.names ≤ limits.names
  pub versions_made : made.versions + drafts ≤ limits.versions
  pub handles_made : made.handles ≤ limits.handles
  pub groups_made : made.groups ≤ limits.groups
  pub members_made : made.members ≤ limits.members
  pub marks_made : made.marks ≤ limits.marks
  pub file_rows : files ≤ made.files
  pub name_rows : names ≤ made.names
  pub version_rows : versions ≤ made.versions

-- the root is there, and each directory has a policy that can be made; their numbers rise, and were given; all but the root are counted
pub record AreDirectories (made limit : ℕ) (rows : List DirectoryRow) : Type 0 where
  pub rooted : list_any (is_directory root) rows ≡ true
  pub policies : AllByRecursion (λ row. IsPolicy row.default) rows
  pub placed : AllLater (λ earlier later. earlier.id < later.id) rows
  pub given : AllByRecursion (λ row. row.id ≤ made) rows
  pub counted : length rows ≤ made + 1
  pub few : made ≤ limit

-- the file's number was given; its next version's number is at least 2 and at most one more than the versions made; its policy can be made
pub record IsFile (files versions : ℕ) (row : FileRow) : Type 0 where
  pub numbered : 1 ≤ row.id
  pub given : row.id ≤ files
  pub first : 2 ≤ row.next
  pub next : row.next ≤ versions + 1
  pub policy : IsPolicy row.policy

pub record AreFiles (files versions : ℕ) (rows : List FileRow) : Type 0 where
  pub each : AllByRecursion (IsFile files versions) rows
  pub placed : AllLater (λ earlier later. earlier.id < later.id) rows

-- the target's file is there; `homes` says that a directory is there
abbrev pub IsThere : List FileRow → Target → Type 0
IsThere files (File file) = 0 < next_of files file
IsThere files (Directory directory) = Unit {0}

-- a name's file is there; it was born by now, and if it is dead it died by now and not before its birth
pub record IsNameRow (files : List FileRow) (now : ℕ) (row : NameRow) : Type 0 where
  pub there : IsThere files row.target
  pub born : row.birth ≤ now
  pub dead : IfSome row.death (λ death. (row.birth ≤ death) × (death ≤ now))

-- of two rows of one directory and name the earlier was dead by the birth of the later
abbrev pub AreApart : NameRow → NameRow → Type 0
AreApart earlier later =
    earlier.directory ≡ later.directory → earlier.name ≡ later.name → (death : ℕ) × (earlier.death ≡ Some death) × (death ≤ later.birth)

pub record AreNames (files : List FileRow) (now : ℕ) (rows : List NameRow) : Type 0 where
  pub each : AllByRecursion (IsNameRow files now) rows
  pub lives : AllLater AreApart rows

abbrev pub has_directory : List DirectoryRow → ℕ → Bool
has_directory rows id = list_any (is_directory id) rows

-- the root, or a directory that has a live name
abbrev pub is_reached : List NameRow → ℕ → Bool
is_reached names id = (id == root) || list_any (is_live_directory id) names

-- the target's directory is there; `names` says that a file is there
abbrev pub IsDirectoryThere : List DirectoryRow → Target → Type 0
IsDirectoryThere directories (File file) = Unit {0}
IsDirectoryThere directories (Directory directory) = has_directory directories directory ≡ true

-- the directory of the name is there, and so is a directory that it means. A live name is in the root or in a directory that has a live
-- name
pub record IsHoused (directories : List DirectoryRow) (names : List NameRow) (row : NameRow) : Type 0 where
  pub home : has_directory directories row.directory ≡ true
  pub there : IsDirectoryThere directories row.target
  pub reached : row.death ≡ None → is_reached names row.directory ≡ true

-- each name is housed, and each directory but the root has a name, live or dead
pub record AreHoused (directories : List DirectoryRow) (names : List NameRow) : Type 0 where
  pub each : AllByRecursion (IsHoused directories names) names
  pub named : AllByRecursion (λ row. ((row.id == root) || list_any (is_name_of_directory row.id) names) ≡ true) directories

-- two live names of directories mean two directories
abbrev pub AreOthers : NameRow → NameRow → Type 0
AreOthers earlier later = (id : ℕ) → is_live_directory id earlier ≡ true → is_live_directory id later ≡ false

-- the cells are those of a content: its slots in order, each of 512 bytes except the last, which has 1 to 512
pub record IsContent (cells : List Cell) : Type 0 where
  pub short : length (content_of cells) ≤ longest_content
  pub slots : fill_slots (length (content_of cells)) cells ≡ true

-- no cell was written by a version with a greater number
abbrev pub AreWrittenBy : ℕ → List Cell → Type 0
AreWrittenBy number cells = AllByRecursion (λ cell. cell.writer ≤ number) cells

-- a held version's file is there, and its next number is greater. The version closed by now, and if it has ended it ended by now and not
-- before it closed. Only the version before the next one may have no end
pub record IsVersion (files : List FileRow) (now : ℕ) (row : VersionRow) : Type 0 where
  pub first : 1 ≤ row.number
  pub numbered : row.number < next_of files row.file
  pub opened : row.opened ≤ row.closed
  pub closed : row.closed ≤ now
  pub ended : IfSome row.ended (λ ended. (row.closed ≤ ended) × (ended ≤ now))
  pub open_end : row.ended ≡ None → row.number + 1 ≡ next_of files row.file
  pub content : IsContent row.cells
  pub written : AreWrittenBy row.number row.cells

-- of two held versions the later has the greater file, or the same file and the greater number; then the earlier had ended
-- when the later closed
pub record ArePlaced (earlier later : VersionRow) : Type 0 where
  pub after : is_version_after earlier.file earlier.number later ≡ true
  pub ended : earlier.file ≡ later.file → (ended : ℕ) × (earlier.ended ≡ Some ended) × (ended ≤ later.closed)

pub record AreVersions (files : List FileRow) (now : ℕ) (rows : List VersionRow) : Type 0 where
  pub each : AllByRecursion (IsVersion files now) rows
  pub placed : AllLater ArePlaced rows

-- a draft's file is there, and the draft was opened by now; its number is that of the file's next version
pub record IsDraft (files : List FileRow) (now : ℕ) (row : DraftRow) : Type 0 where
  pub there : 0 < next_of files row.file
  pub opened : row.opened ≤ now
  pub content : IsContent row.cells
  pub written : AreWrittenBy (next_of files row.file) row.cells

pub record AreDrafts (files : List FileRow) (now : ℕ) (rows : List DraftRow) : Type 0 where
  pub each : AllByRecursion (IsDraft files now) rows
  pub placed : AllLater (λ earlier later. earlier.file < later.file) rows

-- a draft that a handle reads is there; `readers` says that a version that one reads is held
abbrev pub IsReadable : List DraftRow → Reads → Type 0
IsReadable drafts (Draft file) = list_any (is_draft file) drafts ≡ true
IsReadable drafts (Version file number) = Unit {0}

-- a version that a handle reads is held; `handles` says that a draft that one reads is there
abbrev pub IsHeldRead : List VersionRow → Reads → Type 0
IsHeldRead versions (Draft file) = Unit {0}
IsHeldRead versions (Version file number) = list_any (is_version file number) versions ≡ true

-- all versions that handles read are held
abbrev pub AreHeldRead : List VersionRow → List HandleRow → Type 0
AreHeldRead versions rows = AllByRecursion (λ row. IsHeldRead versions row.reads) rows

-- a handle's number was given, and a draft that it writes is there
pub record IsHandle (made : ℕ) (drafts : List DraftRow) (row : HandleRow) : Type 0 where
  pub numbered : 1 ≤ row.number
  pub given : row.number ≤ made
  pub readable : IsReadable drafts row.reads

pub record AreHandles (made : ℕ) (drafts : List DraftRow) (rows : List HandleRow) : Type 0 where
  pub each : AllByRecursion (IsHandle made drafts) rows
  pub placed : AllLater (λ earlier later. earlier.number < later.number) rows

-- the version before the next one, without an end
abbrev pub is_current : ℕ → ℕ → VersionRow → Bool
is_current file next row = (row.file == file) && ((row.number + 1 == next) && is_none row.ended)

-- each live file's last version is held, and has no end
abbrev pub HaveCurrent : World → Type 0
HaveCurrent w = (file : ℕ) → is_live w file ≡ true → list_any (is_current file (next_of w.files file)) w.versions ≡ true

-- a version without an end is of a live file
abbrev pub IsOfLive : List NameRow → VersionRow → Type 0
IsOfLive names row = row.ended ≡ None → list_any (is_live_name_of row.file) names ≡ true

-- so all versions of a file without a live name have ended
abbrev pub HaveEnded : World → Type 0
HaveEnded w = AllByRecursion (IsOfLive w.names) w.versions

-- a group's files are there, and it has each once. Its marks' moments are before now and before the mark's end, and it has at most one mark
-- at a moment
pub record IsGroup (files : List FileRow) (now : ℕ) (row : GroupRow) : Type 0 where
  pub there : AllByRecursion (λ member. 0 < next_of files member) row.members
  pub apart : AllLater (λ earlier later. (earlier == later) ≡ false) row.members
  pub past : AllByRecursion (λ mark. mark.at < now) row.marks
  pub lasting : AllByRecursion (λ mark. IfSome mark.until (λ end. mark.at < end)) row.marks
  pub once : AllLater (λ earlier later. (earlier.at == later.at) ≡ false) row.marks

-- no two groups have one name, and each was counted
pub record AreGroups (made : ℕ) (files : List FileRow) (now : ℕ) (rows : List GroupRow) : Type 0 where
  pub each : AllByRecursion (IsGroup files now) rows
  pub named : AllLater (λ earlier later. bytes_eq earlier.name later.name ≡ false) rows
  pub counted : length rows ≤ made

-- what is true of every world of a run
pub record IsWellFormed (w : World) : Type 0 where
  pub now : w.now ≤ last_moment
  pub bounded : AreBounds w.limits
  pub counted : AreCounted w.made w.limits (length w.files) (length w.names) (length w.versions) (length w.drafts)
  pub directories : AreDirectories w.made.directories w.limits.directories w.directories
  pub files : AreFiles w.made.files w.made.versions w.files
  pub names : AreNames w.files w.now w.names
  pub homes : AreHoused w.directories w.names
  pub tree : AllLater AreOthers w.names
  pub versions : AreVersions w.files w.now w.versions
  pub drafts : AreDrafts w.files w.now w.drafts
  pub handles : AreHandles w.made.handles w.drafts w.handles
  pub readers : AreHeldRead w.versions w.handles
  pub current : HaveCurrent w
  pub ended : HaveEnded w
  pub groups : AreGroups w.made.groups w.files w.now w.groups
