-- Rows that are added one after another to files that are made of them. No public clause cites this module.
use Rattle.std.specs.Prelude.{◌≡◌, ℕ, ◌+◌, ◌<◌, ◌≤◌, ◌==◌, true, List, [], ◌∷◌, ◌++◌, None, IfSome, take, drop, length, if◌then◌else◌}
use Rattle.std.specs.List.{AllByRecursion, list_any}
use Rattle.ele_blocks.specs.Layout.{Layout}
use Rattle.ele_content.specs.declared.cell.Cell.{Cell}
use Rattle.ele_files.specs.Held.{Held}
use Rattle.ele_inode_log.specs.declared.row.VersionRow as log
use Rattle.ele_lists.specs.Lists.{AllLater}
use Rattle.ele_model.specs.declared.rows.DraftRow.{DraftRow}
use Rattle.ele_model.specs.declared.rows.FileRow.{FileRow}
use Rattle.ele_model.specs.declared.rows.HandleRow.{HandleRow}
use Rattle.ele_model.specs.declared.rows.VersionRow.{VersionRow}
use Rattle.ele_model.specs.OneContent.{Agree}
use Rattle.ele_model.specs.WellFormed.{AreDrafts, AreFiles, AreHandles, ArePlaced, AreVersions, AreWrittenBy, IsContent}
use Rattle.ele_model.specs.World.{is_writer, next_of}

-- ---- a content beside others

-- where a version wrote a slot of the file, these contents of the file have the same bytes as the cells
pub record AgreeWith (closed : List VersionRow) (unsaved : List DraftRow) (file : ℕ) (cells : List Cell) : Type 0 where
  pub versions : AllByRecursion (λ (row : VersionRow). row.file ≡ file → Agree row.cells cells) closed
  pub drafts : AllByRecursion (λ (row : DraftRow). row.file ≡ file → Agree row.cells cells) unsaved

-- a content that agrees with those that are there, without a later writer than that
pub record IsContentBeside (h : Held) (file last : ℕ) (cells : List Cell) : Type 0 where
  pub content : IsContent cells
  pub written : AreWrittenBy last cells
  pub agrees : AgreeWith h.versions h.drafts file cells

-- ---- the last file gets its rows

-- the rows, and the file that is the last of them
pub record Growing : Type 0 where
  pub held : Held
  pub file : FileRow

-- the version is of the last file, and the earlier ones are before it
pub record IsNextVersion (g : Growing) (row : VersionRow) : Type 0 where
  pub own : row.file ≡ g.file.id
  pub first : 1 ≤ row.number
  pub numbered : row.number < g.file.next
  pub ended : IfSome row.ended (λ ended. row.closed ≤ ended)
  pub open_end : row.ended ≡ None → row.number + 1 ≡ g.file.next
  pub placed : AllByRecursion (λ (earlier : VersionRow). ArePlaced earlier row) g.held.versions
  pub beside : IsContentBeside g.held g.file.id row.number row.cells

pub record IsNextDraft (g : Growing) (row : DraftRow) : Type 0 where
  pub own : row.file ≡ g.file.id
  pub beside : IsContentBeside g.held g.file.id g.file.next row.cells

abbrev pub with_versions : Growing → List VersionRow → Growing
with_versions g rows = record g { held = record g.held { versions = g.held.versions ++ rows } }

abbrev pub with_drafts : Growing → List DraftRow → Growing
with_drafts g rows = record g { held = record g.held { drafts = g.held.drafts ++ rows } }

-- each can be added after those before it
abbrev pub AreNextVersions : Growing → List VersionRow → Type 0
AreNextVersions g [] = Unit {0}
AreNextVersions g (row ∷ rows) = IsNextVersion g row × AreNextVersions (with_versions g (row ∷ [])) rows

abbrev pub AreNextDrafts : Growing → List DraftRow → Type 0
AreNextDrafts g [] = Unit {0}
AreNextDrafts g (row ∷ rows) = IsNextDraft g row × AreNextDrafts (with_drafts g (row ∷ [])) rows

-- the version's row in a log, with the map of its content
abbrev pub logged : VersionRow → Layout → log.VersionRow
logged row cells = record { number = row.number; opened = row.opened; closed = row.closed; ended = row.ended; cells = cells }

-- ---- all rows

-- rows of files, without handles
abbrev pub unopened_rows : List FileRow → List VersionRow → List DraftRow → Held
unopened_rows files versions drafts = record { files = files; versions = versions; drafts = drafts; handles = []; opened = 0 }

-- the rows with a file more
abbrev pub with_next : Held → FileRow → Growing
with_next h file = record { held = record h { files = h.files ++ file ∷ [] }; file = file }

-- the file is after the others, and these rows of it can be added to it
pub record IsNextFile (h : Held) (file : FileRow) (closed : List VersionRow) (unsaved : List DraftRow) : Type 0 where
  pub next : 1 ≤ file.next
  pub rises : AllByRecursion (λ (row : FileRow). row.id < file.id) h.files
  pub versions : AreNextVersions (with_next h file) closed
  pub drafts : AreNextDrafts (with_versions (with_next h file) closed) unsaved

-- the rows of a well-formed world, in which a place has one content
pub record AreWhole (files : List FileRow) (versions : List VersionRow) (drafts : List DraftRow) : Type 0 where
  pub files_made : ℕ
  pub versions_made : ℕ
  pub moment : ℕ
  pub each_file : AreFiles files_made versions_made files
  pub each_version : AreVersions files moment versions
  pub each_draft : AreDrafts files moment drafts
  pub version_contents : AllByRecursion (λ (row : VersionRow). AgreeWith versions drafts row.file row.cells) versions
  pub draft_contents : AllByRecursion (λ (row : DraftRow). AgreeWith versions drafts row.file row.cells) drafts

-- how many of the first rows are of the file
abbrev pub own_length : {X : Type 0} → (X → ℕ) → ℕ → List X → ℕ
own_length file_of file [] = 0
own_length file_of file (x ∷ xs) = if file_of x == file then own_length file_of file xs + 1 else 0

-- so many files are made, with all of their versions and drafts
pub record IsMadeUpTo (files : List FileRow) (versions : List VersionRow) (drafts : List DraftRow) (file version draft : ℕ) (h : Held) : Type 0 where
  pub made : h ≡ unopened_rows (take file files) (take version versions) (take draft drafts)
  pub versions_within : version ≤ length versions
  pub drafts_within : draft ≤ length drafts
  pub versions_ahead : AllByRecursion (λ (row : VersionRow). 0 < next_of (drop file files) row.file) (drop version versions)
  pub drafts_ahead : AllByRecursion (λ (row : DraftRow). 0 < next_of (drop file files) row.file) (drop draft drafts)

-- ---- the handles at the end

-- drafts are in order of files, handles fit to them, and a handle writes each draft
pub record AreHandled (drafts : List DraftRow) (handles : List HandleRow) (opened : ℕ) : Type 0 where
  pub rise : AllLater (λ (x y : DraftRow). x.file < y.file) drafts
  pub each : AreHandles opened drafts handles
  pub written : AllByRecursion (λ (draft : DraftRow). list_any (is_writer draft.file) handles ≡ true) drafts
