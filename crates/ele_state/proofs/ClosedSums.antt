-- What the book of usage has, once a handle is closed.
use Rattle.ele_state.proofs.Words.{None, only_at, left_by, opening_by, with_rows, Abandon, Closed, Close, Done, DropIdle, IsBooked, after_change, step, nat_tests, ◌≡◌, ℕ, ◌+◌, ◌-◌, ◌≤◌, ◌<◌, ◌^◌, cond, List, length, Ok, refl, sym, arith, content_of, longest_content, world_of, IsSound, IsRoomy, held_world, blocks_of, one_version, IsOwed, Rows, Held, IsSource, Origin, cells_of_draft, cells_of_version, source_cells, insert_before, update_first, DraftRow, all-found, length-update_first, length-insert_before, Kind, Book, sums_of, nothing, plus, Fits, VersionRow, ended_at, with_end, is_file_of, bytes_in, Drafts, Versions, ChangesOnly, Draft, World, reads_by, is_version, is_version_after, next_of, versions-finished, kinds-numbered, files-numbered, sum_by-insert_before, sum_by-update_same, Bool, Usage, usage_of, subst, ap, ◌∙◌, IsQueued, HasParts}
use Rattle.ele_state.proofs.Booked.{few_blocks, owed, drafts_owed, and_nothing, size, bytes_are}
use Rattle.ele_state.proofs.Saved.{content_by}
use Rattle.ele_state.proofs.ClosedSteps.{abandoned_step, leaves, left_keeps, left_queue, left_step, left_world}
use Rattle.ele_model.proofs.OtherFiles.{other_drafts}
use Rattle.ele_model.specs.Change.{numbered_on}
use Rattle.ele_model.specs.World.{is_file}
use Rattle.ele_model.specs.declared.rows.HandleRow.{HandleRow}
use Rattle.ele_state.specs.Source as source

-- the book has the version of the file's kind
abbrev pub HasAdded : Held → ℕ → Book → Book → ℕ → Type 0
HasAdded now file before book bytes = (k : Kind) → sums_of book k ≡ plus (sums_of before k) (cond (is_file_of now.files k file) (one_version bytes) nothing)

ends : (after before was : Usage) (own : Bool) (bytes : ℕ) → after ≡ plus before (cond own (one_version bytes) nothing) → before ≡ was → plus after (cond own nothing nothing) ≡ plus was (cond own (one_version bytes) nothing)
ends after before was x3 bytes has same = grind (arith, nat_tests, and_nothing)

-- the file has a version more, its draft may be removed, and no other file has changed
module _ (rows : Rows) (file : ℕ) (new : VersionRow) (drafts : List DraftRow) (handles : List HandleRow) (own : new.file ≡ file) (others : other_drafts file drafts ≡ other_drafts file rows.files.drafts) where
  abbrev w : World
  w = world_of rows

  abbrev next : ℕ
  next = next_of w.files file

  abbrev now : Held
  now = record { files = update_first (is_file file) numbered_on w.files; versions = insert_before (is_version_after file next) new (with_end w file); drafts = drafts; handles = handles; opened = rows.files.opened }

  changes : ChangesOnly file (held_world rows.files) (held_world now)
  changes = record { kinds = λ k id. kinds-numbered w.files file k id; files = λ k. files-numbered w.files file k; versions = versions-finished file next (next - 1) rows.moment new w.versions own; drafts = others }

  more_versions : length now.versions ≡ length w.versions + 1
  more_versions = omega (arith, length-insert_before (is_version_after file next) new (with_end w file), length-update_first (is_version file (next - 1)) (ended_at w.now) w.versions)

  more_bytes : bytes_in now.versions ≡ bytes_in w.versions + length (content_of new.cells)
  more_bytes = omega (arith, bytes_are now.versions, bytes_are w.versions, sum_by-insert_before size (is_version_after file next) new (with_end w file), sum_by-update_same size (is_version file (next - 1)) (ended_at w.now) w.versions (λ row. refl))

  -- the blocks of the file are owed once the book has the new version
  pub version_owed : IsBooked rows.files rows.book → (after : Held) (book : Book) (bytes before : ℕ) → after ≡ now → bytes ≡ length (content_of new.cells) → before ≡ blocks_of rows.files → HasAdded after file rows.book book bytes → IsOwed after book file before
  version_owed booked after book bytes before is long same added =
      rw (is, same) (owed file rows.files now book 1 (length (content_of new.cells)) 0 0 changes (omega (arith, more_versions)) (omega (arith, more_bytes))
      (λ k. ends (sums_of book k) (sums_of rows.book k) (usage_of (held_world rows.files) k) (is_file_of now.files k file) (length (content_of new.cells)) (rw (is, long) at added k) (booked k)))

-- ---- a handle whose draft stays, or goes without a trace

module _ (rows : Rows) (handle file : ℕ) (sound : IsSound rows) (reads : reads_by rows.files.handles handle ≡ Ok (Draft file)) where
  pub left_owed : (before : ℕ) → before ≡ blocks_of rows.files → IsOwed (left_by rows.files handle) rows.book file before
  left_owed before same = let is = leaves (world_of rows) handle file reads in drafts_owed rows file (left_by rows.files handle) before sound.tracked same is.files is.versions is.drafts

  pub left_sound : (book : Book) → IsBooked (left_by rows.files handle) book → IsSound (record rows { files = left_by rows.files handle; book = book })
  left_sound book booked = record {
    formed = subst HasParts (sym (left_world (world_of rows) handle file reads)) (left_keeps (world_of rows) handle file reads sound.formed);
    tracked = record { queue = subst (λ (v : World). IsQueued v rows.queue) (sym (left_world (world_of rows) handle file reads)) (left_queue (world_of rows) handle file reads sound.formed rows.queue sound.tracked.queue); book = booked; bounds = sound.tracked.bounds };
  }

  pub left_answer : opening_by rows.files handle ≡ None → (Closed None, after_change (with_rows (world_of rows) (left_by rows.files handle)) (DropIdle file)) ≡ step (world_of rows) (Close handle)
  left_answer opens = ap (λ (v : World). (Closed None, after_change v (DropIdle file))) (left_world (world_of rows) handle file reads) ∙ sym (left_step (world_of rows) handle file reads sound.formed opens)

  pub abandoned_answer : (Done, after_change (with_rows (world_of rows) (left_by rows.files handle)) (DropIdle file)) ≡ step (world_of rows) (Abandon handle)
  abandoned_answer = ap (λ (v : World). (Done, after_change v (DropIdle file))) (left_world (world_of rows) handle file reads) ∙ sym (abandoned_step (world_of rows) handle file reads sound.formed)

-- ---- bounds

pub draft_short : (rows : Rows) → IsSound rows → (file : ℕ) → length (content_of (cells_of_draft rows.files file)) ≤ longest_content
draft_short rows sound file = grind (arith, nat_tests, all-found, sound.formed.holds Drafts)

pub version_short : (rows : Rows) → IsSound rows → (file number : ℕ) → length (content_of (cells_of_version rows.files file number)) ≤ longest_content
version_short rows sound file number = grind (arith, nat_tests, all-found, sound.formed.holds Versions)

pub source_short : (rows : Rows) → IsSound rows → (file : ℕ) (source : Origin) → IsSource rows.files file source → length (content_of (source_cells rows.files file source)) ≤ longest_content
source_short rows sound file (source.Draft handle opened) is = draft_short rows sound file
source_short rows sound file (source.Version number) is = version_short rows sound file number
source_short rows sound file (source.Bytes bytes) is = rw content_by is.short

pub version_fits : (rows : Rows) → IsBooked rows.files rows.book → IsRoomy rows.made.versions rows.book → (bytes before : ℕ) → bytes ≤ longest_content → before ≡ blocks_of rows.files → before < 2 ^ 64 → (k : Kind) → Fits (plus (sums_of rows.book k) (one_version bytes))
version_fits rows booked roomy bytes before short is bound k = grind (arith, nat_tests, roomy.sums k, few_blocks rows booked k)

pub added_fits : (rows : Rows) (kind : Kind) (book : Book) (bytes : ℕ) → IsRoomy rows.made.versions rows.book → bytes ≤ longest_content → ((k : Kind) → sums_of book k ≡ plus (sums_of rows.book k) (only_at kind (one_version bytes) k)) → (k : Kind) → Fits (record (sums_of book k) { blocks = 0 })
added_fits rows kind book bytes roomy short added k = grind (arith, nat_tests, roomy.sums k, added k)
