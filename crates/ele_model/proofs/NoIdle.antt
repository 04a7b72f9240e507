-- After an event each file has a live name, a held version or a draft. In a well-formed world a live file has a version, so what counts is
-- whether each file has a version or a draft.
use Rattle.ele_model.proofs.Basics.{rules, ◌≡◌, ◌==◌, ℕ, Bool, true, false, not, ◌||◌, ◌+◌, List, [], ◌∷◌, arith, AllByRecursion, list_any, false≢true, not-true, nat_tests, update_first, remove_first, filter-passes, all-push, all-weaker, all-both}
use Rattle.ele_model.proofs.Basics.{all-update_first, all-remove_first, found_passes, list_any-update_first, list_any-insert_before, list_any-remove_first, any-found, remove_first-key}
use Rattle.ele_model.proofs.Words.{Change, Cell, Policy, Take, MakeFile, SetFilePolicy, EndFileName, EndDraft, DropIdle, ShutHandle, StartDraft, after_change, is_idle, numbered_on, set_policy, with_file, with_name, with_version, without_file, is_version_of, after_changes, is_handle, is_writer, IsEvent}
use Rattle.ele_model.proofs.Words.{HasNoIdle, run_of, plan, step, Files, Current, HasParts, World, is_file, is_draft, has_draft, save_new_plan, content_of, default_of, Event, Close, Abandon, Save, Restore, CleanOne, Read, DraftRow, FileRow, File}
use Rattle.ele_lists.proofs.Cuts.{any-found as first_passing}
use Rattle.ele_model.proofs.Allowed.{takes}
use Rattle.ele_model.proofs.Dropped.{dropped}
use Rattle.ele_model.proofs.Keeps.{event_keeps}
use Rattle.ele_model.proofs.KeptDrafts.{same_file, end_keeps, shut_keeps}
use Rattle.ele_model.proofs.PlanOutcomes.{AfterAll, in_all}
use Rattle.ele_model.proofs.StepKeeps.{step_keeps}

-- the file has a held version or a draft
abbrev has_rows : World → ℕ → Bool
has_rows w id = list_any (is_version_of id) w.versions || has_draft w id

abbrev AreBusy : World → Type 0
AreBusy w = AllByRecursion (λ row. has_rows w row.id ≡ true) w.files

-- all but perhaps one
abbrev AreBusyBut : World → ℕ → Type 0
AreBusyBut w file = AllByRecursion (λ row. (row.id == file) ≡ false → has_rows w row.id ≡ true) w.files

-- ---- a version more

versioned : (w : World) (file opened : ℕ) (cells : List Cell) → AreBusyBut w file → AreBusy (with_version w file opened cells)
versioned w file opened cells = grind (arith, nat_tests, all-update_first (is_file file) (λ row. (row.id == file) ≡ false → has_rows w row.id ≡ true) (λ row. has_rows (with_version w file opened cells) row.id ≡ true) numbered_on w.files, list_any-insert_before, list_any-update_first)

grown : (w : World) (file opened : ℕ) (cells : List Cell) → AreBusy w → AreBusy (with_version w file opened cells)
grown w file opened cells all = versioned w file opened cells (all-weaker (λ row. has_rows w row.id ≡ true) (λ row. (row.id == file) ≡ false → has_rows w row.id ≡ true) w.files (λ row h apart. h) all)

-- ---- the other changes

made : (w : World) (directory : ℕ) (name : List ℕ) (id : ℕ) (policy : Policy) → AreBusy w → AreBusy (after_change w (MakeFile directory name id policy))
made w directory name id policy all = versioned (with_name (with_file w id policy) directory name (File id)) id w.now [] (grind (arith, nat_tests, all-push (λ row. (row.id == id) ≡ false → has_rows w row.id ≡ true) w.files, all-weaker (λ row. has_rows w row.id ≡ true) (λ row. (row.id == id) ≡ false → has_rows w row.id ≡ true) w.files))

put : (w : World) (file : ℕ) (policy : Policy) → AreBusy w → AreBusy (after_change w (SetFilePolicy file policy))
put w file policy = grind (arith, nat_tests, all-update_first (is_file file) (λ row. has_rows w row.id ≡ true) (λ row. has_rows w row.id ≡ true) (set_policy policy) w.files)

nameless : (w : World) (directory : ℕ) (name : List ℕ) (file : ℕ) → AreBusy w → AreBusy (after_change w (EndFileName directory name file))
nameless w directory name file all = grind (arith, nat_tests, all-weaker, list_any-update_first)

begun : (w : World) (file : ℕ) → AreBusy w → AreBusy (after_change w (StartDraft file))
begun w file = grind (arith, nat_tests, all-weaker, list_any-insert_before)

edited : (w : World) (file : ℕ) (f : DraftRow → DraftRow) → ((row : DraftRow) → (f row).file ≡ row.file) → AreBusy w → AreBusy (record w { drafts = update_first (is_draft file) f w.drafts })
edited w file f same = grind (arith, nat_tests, all-weaker, list_any-update_first)

-- ---- a version or a draft goes, and so does its file if nothing is left of it

taken : (w : World) (file number : ℕ) → AreBusy w → AreBusyBut (after_change w (Take file number)) file
taken w file number = grind (arith, nat_tests, all-weaker, list_any-remove_first, found_passes)

ended : (w : World) (file : ℕ) → AreBusy w → AreBusyBut (after_change w (EndDraft file)) file
ended w file = grind (arith, nat_tests, all-weaker, list_any-remove_first, found_passes)

-- a live file has its current version
busy_is : (w : World) (file : ℕ) → HasParts w → is_idle w file ≡ false → has_rows w file ≡ true
busy_is w file k = grind (arith, nat_tests, k.holds Current, first_passing, any-found, found_passes, false≢true)

idle_gone : (w : World) (file : ℕ) → HasParts w → AreBusyBut w file → AreBusy (after_change w (DropIdle file))
idle_gone w file k but = dropped AreBusy w file (λ idle. gone) (λ busy. grind (arith, nat_tests, busy_is w file k, all-weaker (λ row. (row.id == file) ≡ false → has_rows w row.id ≡ true) (λ row. has_rows w row.id ≡ true) w.files)) where
  others : AllByRecursion (λ row. not (row.id == file) ≡ true) (remove_first (is_file file) w.files)
  others = rw (remove_first-key (λ (row : FileRow). row.id) file w.files (k.holds Files).placed) (filter-passes (λ (row : FileRow). not (row.id == file)) w.files)

  gone : AreBusy (without_file w file)
  gone = all-weaker (λ row. (not (row.id == file) ≡ true) × ((row.id == file) ≡ false → has_rows w row.id ≡ true)) (λ row. has_rows w row.id ≡ true) (remove_first (is_file file) w.files) (λ row h. h.1 (not-true (row.id == file) h.0))
      (all-both _ _ (remove_first (is_file file) w.files) others (all-remove_first (is_file file) (λ row. (row.id == file) ≡ false → has_rows w row.id ≡ true) w.files but))

-- no file is idle exactly if each has rows
busy_all : (w : World) → HasParts w → HasNoIdle w → AreBusy w
busy_all w k none = all-weaker (λ row. is_idle w row.id ≡ false) (λ row. has_rows w row.id ≡ true) w.files (λ row h. busy_is w row.id k h) none

idle_none : (w : World) → AreBusy w → HasNoIdle w
idle_none w all = all-weaker (λ row. has_rows w row.id ≡ true) (λ row. is_idle w row.id ≡ false) w.files (λ row h. grind (arith, nat_tests)) all

-- ---- each change by which no version and no draft goes

abbrev pub LeavesRows : Change → Type 0
LeavesRows (Take file number) = ⊥
LeavesRows (EndDraft file) = ⊥
LeavesRows change = Unit {0}

busy_still : (w : World) (change : Change) → LeavesRows change → HasParts w → AreBusy w → AreBusy (after_change w change)
busy_still w (DropIdle file) leaves k all = idle_gone w file k (all-weaker (λ row. has_rows w row.id ≡ true) (λ row. (row.id == file) ≡ false → has_rows w row.id ≡ true) w.files (λ row h apart. h) all)
busy_still w change leaves k all = search (rules, made, grown, nameless, begun, edited, same_file, put)

pub change_settles : (w : World) (change : Change) → LeavesRows change → HasParts w → HasNoIdle w → HasNoIdle (after_change w change)
change_settles w change leaves k none = idle_none (after_change w change) (busy_still w change leaves k (busy_all w k none))

-- ---- each event

-- a file is made with two versions
saved_new : (w : World) (at : ℕ × List ℕ) (bytes : List ℕ) → AreBusy w → AfterAll w (λ answer. AreBusy (answer.1)) (save_new_plan w at bytes)
saved_new w at bytes all = λ files names versions.
    let id = w.made.files + 1 in
    let policy = default_of w.directories at.0 in
    grown (after_change w (MakeFile at.0 at.1 id policy)) id w.now _ (made w at.0 at.1 id policy all)

-- the last writer's draft goes
abandoned : (w : World) (handle file : ℕ) → list_any (is_writer file) (remove_first (is_handle handle) w.handles) ≡ false → HasParts w → AreBusy w → AreBusy (after_changes w (ShutHandle handle ∷ EndDraft file ∷ DropIdle file ∷ []))
abandoned w handle file last k all =
    let shut = after_change w (ShutHandle handle) in
    idle_gone (after_change shut (EndDraft file)) file (end_keeps shut file last (shut_keeps w handle k)) (ended shut file all)

tidy : (w : World) (event : Event) → HasParts w → AreBusy w → AfterAll w (λ answer. AreBusy (answer.1)) (plan w event)
tidy w (Close handle) k all = λ read found. (
  λ none. all,
  λ file writes. (
    λ other. all,
    λ last. (
      λ none. all,
      λ draft drafted.
          let shut = after_change w (ShutHandle handle) in (
            λ changed. versioned (after_change shut (EndDraft file)) file draft.opened draft.cells (ended shut file all),
            λ same. abandoned w handle file last k all,
          ),
    ),
  ),
)
tidy w (Abandon handle) k all = λ file writes. (λ other. all, λ last. abandoned w handle file last k all)
tidy w (Save path bytes) k all = λ at found standing stood fits. (λ none. saved_new w at bytes all, λ file is drafts versions. grown w file w.now _ all)
tidy w (Restore path moment) k all = λ row was at found standing stood. (
  λ none. (
    λ live. saved_new w at (content_of row.cells) all,
    λ nameless drafts names versions. grown (with_name w at.0 at.1 (File row.file)) row.file w.now _ all,
  ),
  λ file is. (λ own drafts versions. grown w file w.now _ all, λ other drafts versions. grown w file w.now _ all),
)
tidy w CleanOne k all = (λ none. all, λ key first. idle_gone (after_change w (Take key.file key.number)) key.file (event_keeps CleanOne w w (Take key.file key.number) tt (takes w key k first) k) (taken w key.file key.number all))
tidy w (Read source) k all = grind (arith, nat_tests)
tidy w event k all = search (rules, made, grown, nameless, begun, edited, same_file, put)

pub no_idle_stays : (w : World) (event : Event) → HasParts w → HasNoIdle w → HasNoIdle ((step w event).1)
no_idle_stays w event k none = grind (arith, nat_tests, all-weaker, is_idle, has_rows, busy_is, step, in_all, AreBusy, plan, tidy)

pub runs_have_none : (w : World) (events : List Event) → AllByRecursion IsEvent events → HasParts w → HasNoIdle w → HasNoIdle (run_of w events)
runs_have_none w [] are k none = none
runs_have_none w (event ∷ events) are k none = runs_have_none ((step w event).1) events are.1 (step_keeps w event are.0 k) (no_idle_stays w event k none)
