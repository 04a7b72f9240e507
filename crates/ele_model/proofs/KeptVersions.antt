-- The making and the removal of a version keep a world well formed.
use Rattle.ele_model.proofs.Basics.{◌≡◌, ◌≢◌, ℕ, ◌+◌, ◌-◌, Bool, true, false, List, Some, arith, ◌==◌, find, is_none, list_any, AllByRecursion, false≢true, nat_tests, remove_first, update_first, all-none, AllLater, all-weaker, all-both, found_passes}
use Rattle.ele_model.proofs.Basics.{all-update_first, all-remove_first, all-insert_before, later-update_first, later-remove_first, later-insert_before, length-update_first, length-insert_before, length-remove_first-le, list_any-update_first}
use Rattle.ele_model.proofs.Basics.{list_any-insert_before, list_any-remove_first}
use Rattle.ele_model.proofs.Words.{Cell, numbered_on, ended_at, next_version, with_end, with_version, after_change, Take, IsFile, IsNameRow, IsVersion, ArePlaced, IsDraft, is_current, IsHeldRead, Part, Versions, Readers, Current, Holds, HasParts}
use Rattle.ele_model.proofs.Words.{AreVersions, IsOfLive, World, next_of, is_file, is_live, is_open, is_version, is_version_after, reads_version, Reads, FileRow, VersionRow}
use Rattle.ele_model.proofs.Readers.{read_on}
use Rattle.ele_model.proofs.Files.{next_of-numbered_on, next_of-numbered_other, next_of-numbered_le}
use Rattle.ele_model.proofs.KeptGroups.{groups_on}
use Rattle.ele_model.proofs.May.{MayAppend}
use Rattle.ele_model.proofs.Versions.{IsEndedBy, file_ended}
use Rattle.ele_model.proofs.Writers.{written_more}

-- what is current in another file is so still
pub current_ended : (file other number next now : ℕ) (rows : List VersionRow) → (file == other) ≡ false → list_any (is_current other next) (update_first (is_version file number) (ended_at now) rows) ≡ list_any (is_current other next) rows
current_ended file other number next now rows apart = grind (arith, nat_tests, list_any-update_first)

-- a row after a later row is later
pub behind_too : (file number : ℕ) (x z : VersionRow) → is_version_after file number x ≡ true → ArePlaced x z → is_version_after file number z ≡ true
behind_too file number x z e placed = let after = placed.after in grind (arith, nat_tests)

-- ---- the versions, if the one before the next has an end

module _ (w : World) (file : ℕ) (are : AreVersions w.files w.now w.versions) where
  pub ended_versions : AreVersions w.files w.now (with_end w file)
  ended_versions = grind (arith, nat_tests, all-update_first (is_version file (next_of w.files file - 1)) (IsVersion w.files w.now) (IsVersion w.files w.now) (ended_at w.now) w.versions, later-update_first (is_version file (next_of w.files file - 1)) ArePlaced (ended_at w.now) w.versions)

  -- each of the file's has ended
  pub ended_own : AllByRecursion (λ row. (row.file ≡ file → IsEndedBy w.now row) × IsVersion w.files w.now row) (with_end w file)
  ended_own = all-both _ _ (with_end w file) (file_ended w.files w.now file w.versions are.placed are.each) ended_versions.each

  -- so the next one is at its place
  pub next_placed : (opened : ℕ) (cells : List Cell) → AllLater ArePlaced (with_version w file opened cells).versions
  next_placed opened cells = later-insert_before (is_version_after file (next_of w.files file)) ArePlaced (λ row. (row.file ≡ file → IsEndedBy w.now row) × IsVersion w.files w.now row) (next_version w file opened cells) (with_end w file)
      (λ row h before. grind (arith, nat_tests)) (λ row h behind. grind (arith, nat_tests, false≢true)) (behind_too file (next_of w.files file)) ended_own ended_versions.placed

-- ---- the file's next version

-- each part holds, but that the file itself may be live without a current version
abbrev pub HoldsBeside : ℕ → World → Part → Type 0
HoldsBeside file w Current = (other : ℕ) → other ≢ file → is_live w other ≡ true → list_any (is_current other (next_of w.files other)) w.versions ≡ true
HoldsBeside file w part = Holds w part

module _ (w : World) (file opened : ℕ) (cells : List Cell) (may : MayAppend w file opened cells) where
  abbrev new : VersionRow
  new = next_version w file opened cells

  abbrev files : List FileRow
  files = update_first (is_file file) numbered_on w.files

  next_is : next_of files file ≡ next_of w.files file + 1
  next_is = next_of-numbered_on w.files file may.there

  abbrev next : ℕ
  next = next_of w.files file

  abbrev p : VersionRow → Bool
  p = is_version file (next - 1)

  pub append_completes : ((part : Part) → HoldsBeside file w part) → HasParts (with_version w file opened cells)
  append_completes holds = record { holds = by } where
    by : (part : Part) → Holds (with_version w file opened cells) part
    by Versions = record {
      each = all-insert_before (is_version_after file next) (IsVersion files w.now) new (with_end w file) (grind (arith, nat_tests, next_is))
          (all-weaker _ (IsVersion files w.now) (with_end w file) (λ row h. grind (arith, nat_tests, next_of-numbered_le, next_of-numbered_other)) (ended_own w file (holds Versions)));
      placed = next_placed w file (holds Versions) opened cells;
    }
    by Readers = read_on w.versions (with_version w file opened cells).versions w.handles (λ f n held. grind (arith, nat_tests, list_any-insert_before, list_any-update_first)) (holds Readers)
    by Current = λ other live. grind (arith, nat_tests, holds Current other, next_is, list_any-insert_before, next_of-numbered_other w.files file other, current_ended file other (next_of w.files file - 1) (next_of w.files other) w.now w.versions)
    by part = grind (arith, nat_tests, holds part, length-update_first (is_file file) numbered_on w.files, length-update_first p (ended_at w.now) w.versions, length-insert_before (is_version_after file next) new (with_end w file), all-update_first (is_file file) (IsFile w.made.files w.made.versions) (IsFile w.made.files (w.made.versions + 1)) numbered_on w.files, later-update_first (is_file file), all-weaker (IsNameRow w.files w.now) (IsNameRow files w.now) w.names, next_of-numbered_le, all-weaker (IsDraft w.files w.now) (IsDraft files w.now) w.drafts, written_more, all-insert_before (is_version_after file next) (IsOfLive w.names) new (with_end w file), all-update_first p (IsOfLive w.names) (IsOfLive w.names) (ended_at w.now) w.versions, groups_on w.made.groups w.files files w.now w.now w.groups)

  pub append_keeps : HasParts w → HasParts (with_version w file opened cells)
  append_keeps k = append_completes (λ part. grind (arith, k.holds part))

-- ---- a version that has ended goes

pub take_keeps : (w : World) (file number : ℕ) → ((row : VersionRow) → find (is_version file number) w.versions ≡ Some row → is_none row.ended ≡ false) → is_open w.handles file number ≡ false → HasParts w → HasParts (after_change w (Take file number))
take_keeps w file number ended unread k = record { holds = λ part. grind (arith, nat_tests, k.holds part, length-remove_first-le (is_version file number) w.versions, all-remove_first, later-remove_first, all-weaker (λ row. (reads_version file number row.reads ≡ false) × IsHeldRead w.versions row.reads) (λ row. IsHeldRead (remove_first (is_version file number) w.versions) row.reads) w.handles, still, all-both (λ row. reads_version file number row.reads ≡ false) (λ row. IsHeldRead w.versions row.reads) w.handles, all-none (λ row. reads_version file number row.reads) w.handles unread, list_any-remove_first) } where
  -- a handle reads another version, and that is still held
  still : (reads : Reads) → reads_version file number reads ≡ false → IsHeldRead w.versions reads → IsHeldRead (remove_first (is_version file number) w.versions) reads
  still reads other h = grind (arith, nat_tests, list_any-remove_first, found_passes)
