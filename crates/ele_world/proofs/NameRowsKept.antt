-- Name rows after an event: those before, in their order, except those of a dropped file, and then new ones.
use Rattle.ele_model.proofs.Basics.{rules, nat_tests, arith, ◌≡◌, ℕ, ◌+◌, ◌<◌, true, List, [], ◌∷◌, ◌++◌, None, refl, inl, filter, list_any, AllByRecursion, AllLater, update_first, remove_first, all-push, all-weaker, filter-all, filter-same_all, list_any-append, list_any-update_first}
use Rattle.ele_model.proofs.Words.{World, HasParts, Names, Files, DropIdle, EndDraft, ShutHandle, Take, Append, after_change, after_changes, MakeFile, SetFilePolicy, Revive, Policy, numbered_on, set_policy, IsThere, IsNameRow, born_row, dies, is_file, is_live_name, next_of, plan, step, cells_by, content_of, default_of, save_new_plan, Cell}
use Rattle.ele_world.specs.NameRowsStay.{AreStillRows, is_there}
use Rattle.ele_model.proofs.Dropped.{dropped, stays_named}
use Rattle.ele_model.proofs.PlanOutcomes.{AfterAll, in_all}
use Rattle.ele_model.proofs.Rising.{removed_any}
use Rattle.ele_world.proofs.Words.{Event, Close, Abandon, CleanOne, Save, Revert, Restore, Read, NameRow, FileRow, Target, File}

module _ (now : ℕ) where
  unchanged : (rows : List NameRow) → AreStillRows now rows rows
  unchanged [] = tt
  unchanged (row ∷ rows) = (inl refl, unchanged rows)

  died : (d : ℕ) (n : List ℕ) (rows : List NameRow) → AreStillRows now rows (update_first (is_live_name d n) (dies now) rows)
  died d n [] = tt
  died d n (row ∷ rows) = grind (arith, nat_tests, unchanged rows, died d n rows)

  born : (rows more : List NameRow) (row : NameRow) → row.birth ≡ now → row.death ≡ None → AreStillRows now rows more → AreStillRows now rows (more ++ row ∷ [])
  born [] more row birth death are = all-push (λ row. (row.birth ≡ now) × (row.death ≡ None)) more row are (birth, death)
  born (x ∷ rows) [] row birth death are = absurd are
  born (x ∷ rows) (y ∷ more) row birth death are = (are.0, born rows more row birth death are.1)

-- ---- files that are there

abbrev AreThere : List FileRow → List NameRow → Type 0
AreThere files names = AllByRecursion (λ row. is_there files row.target ≡ true) names

file_there : (files : List FileRow) (file : ℕ) → 0 < next_of files file → list_any (is_file file) files ≡ true
file_there [] file h = absurd (omega arith)
file_there (x ∷ xs) file h = grind (arith, nat_tests, file_there xs file)

target_there : (files : List FileRow) (target : Target) → IsThere files target → is_there files target ≡ true
target_there files target h = grind (arith, nat_tests, file_there)

all_there : (w : World) → HasParts w → AreThere w.files w.names
all_there w k = all-weaker (IsNameRow w.files w.now) (λ row. is_there w.files row.target ≡ true) w.names (λ row is. target_there w.files row.target is.there) (k.holds Names).each

more_there : (files more : List FileRow) (names : List NameRow) → ((file : ℕ) → list_any (is_file file) files ≡ true → list_any (is_file file) more ≡ true) → AreThere files names → AreThere more names
more_there files more names wider = all-weaker (λ row. is_there files row.target ≡ true) (λ row. is_there more row.target ≡ true) names (λ row h. grind (arith, nat_tests, wider))

-- without a file that goes
other_there : (files : List FileRow) (file : ℕ) (row : NameRow) → AllLater (λ earlier later. earlier.id < later.id) files → is_there files row.target ≡ true → is_there (remove_first (is_file file) files) row.target ≡ stays_named file row
other_there files file row placed there = grind (arith, nat_tests, removed_any)

others_there : (files : List FileRow) (file : ℕ) (names : List NameRow) → AllLater (λ earlier later. earlier.id < later.id) files → AreThere files names → filter (λ row. is_there (remove_first (is_file file) files) row.target) names ≡ filter (stays_named file) names
others_there files file names placed there = filter-same_all (λ row. is_there (remove_first (is_file file) files) row.target) (stays_named file) names (all-weaker (λ row. is_there files row.target ≡ true) (λ row. is_there (remove_first (is_file file) files) row.target ≡ stays_named file row) names (λ row. other_there files file row placed) there)

-- ---- each event

module _ (w : World) (k : HasParts w) where
  abbrev Still : World → Type 0
  Still v = AreStillRows w.now (filter (λ row. is_there v.files row.target) w.names) v.names

  kept : (v : World) → AreThere v.files w.names → AreStillRows w.now w.names v.names → Still v
  kept v there are = rw (filter-all (λ row. is_there v.files row.target) w.names there) are

  -- if no file is made or dropped
  same : (v : World) → v.files ≡ w.files → AreStillRows w.now w.names v.names → Still v
  same v files are = kept v (rw files (all_there w k)) are

  changed : (v : World) (file : ℕ) (f : FileRow → FileRow) → ((row : FileRow) → (f row).id ≡ row.id) → v.files ≡ update_first (is_file file) f w.files → AreStillRows w.now w.names v.names → Still v
  changed v file f id files are = kept v (rw files (more_there w.files (update_first (is_file file) f w.files) w.names (λ other there. grind (arith, nat_tests, list_any-update_first)) (all_there w k))) are

  -- if one is made
  made : (directory : ℕ) (name : List ℕ) (id : ℕ) (policy : Policy) → Still (after_change w (MakeFile directory name id policy))
  made directory name id policy = kept (after_change w (MakeFile directory name id policy)) (more_there w.files (after_change w (MakeFile directory name id policy)).files w.names (λ other there. grind (arith, nat_tests, list_any-update_first, list_any-append)) (all_there w k)) (born w.now w.names w.names (born_row directory name (File id) w.now) refl refl (unchanged w.now w.names))

  -- if a file's next number grows, with a new name or not
  numbered : (v : World) (file : ℕ) → v.files ≡ update_first (is_file file) numbered_on w.files → AreStillRows w.now w.names v.names → Still v
  numbered v file = changed v file numbered_on (λ row. refl)

  versioned : (file : ℕ) (cells : List Cell) → Still (after_change w (Append file w.now cells))
  versioned file cells = numbered (after_change w (Append file w.now cells)) file refl (unchanged w.now w.names)

  revived : (directory : ℕ) (name : List ℕ) (file number : ℕ) → Still (after_change w (Revive directory name file number))
  revived directory name file number = numbered (after_change w (Revive directory name file number)) file refl (born w.now w.names w.names (born_row directory name (File file) w.now) refl refl (unchanged w.now w.names))

  -- if one is made with two versions
  saved_new : (at : ℕ × List ℕ) (bytes : List ℕ) → AfterAll w (λ answer. Still (answer.1)) (save_new_plan w at bytes)
  saved_new at bytes = λ files names versions.
      let id = w.made.files + 1 in
      let v : World = after_changes w (MakeFile at.0 at.1 id (default_of w.directories at.0) ∷ Append id w.now (cells_by 2 bytes) ∷ []) in
      kept v (more_there w.files v.files w.names (λ other there. grind (arith, nat_tests, list_any-update_first, list_any-append)) (all_there w k)) (born w.now w.names w.names (born_row at.0 at.1 (File id) w.now) refl refl (unchanged w.now w.names))

  put : (file : ℕ) (policy : Policy) → Still (after_change w (SetFilePolicy file policy))
  put file policy = changed (after_change w (SetFilePolicy file policy)) file (set_policy policy) (λ row. refl) refl (unchanged w.now w.names)

  drops : (u : World) (file : ℕ) → u.names ≡ w.names → u.files ≡ w.files → Still (after_change u (DropIdle file))
  drops u file names files = dropped Still u file
      (λ idle. rw (names, files, others_there w.files file w.names (k.holds Files).placed (all_there w k)) (unchanged w.now (filter (stays_named file) w.names)))
      (λ busy. same u files (rw names (unchanged w.now w.names)))

  shut : (handle : ℕ) → Still (after_change w (ShutHandle handle))
  shut handle = same (after_change w (ShutHandle handle)) refl (unchanged w.now w.names)

  still : (event : Event) → AfterAll w (λ answer. Still (answer.1)) (plan w event)
  still (Close handle) = λ read found. (
    λ none. shut handle,
    λ file writes. (
      λ other. shut handle,
      λ last. (
        λ none. shut handle,
        λ draft drafted. (
          λ edited. numbered (after_changes w (ShutHandle handle ∷ EndDraft file ∷ Append file draft.opened draft.cells ∷ [])) file refl (unchanged w.now w.names),
          λ fresh. drops (after_change (after_change w (ShutHandle handle)) (EndDraft file)) file refl refl,
        ),
      ),
    ),
  )
  still CleanOne = (λ none. same w refl (unchanged w.now w.names), λ key first. drops (after_change w (Take key.file key.number)) key.file refl refl)
  still (Abandon handle) = λ file writes. (λ other. shut handle, λ last. drops (after_change (after_change w (ShutHandle handle)) (EndDraft file)) file refl refl)
  still (Save path bytes) = λ at found standing stood fits. (λ none. saved_new at bytes, λ file is drafts versions. versioned file (cells_by (next_of w.files file) bytes))
  still (Revert path number) = λ file found row meant drafts versions. versioned file row.cells
  still (Restore path moment) = λ row was at found standing stood. (
    λ none. (λ live. saved_new at (content_of row.cells), λ nameless drafts names versions. revived at.0 at.1 row.file row.number),
    λ file is. (λ own drafts versions. versioned file row.cells, λ other drafts versions. versioned file (cells_by (next_of w.files file) (content_of row.cells))),
  )
  still (Read source) = grind (arith, nat_tests, same, unchanged)
  still event = search (rules, made, revived, put, same, numbered, born, died, unchanged)

pub name_rows_stay : (w : World) (event : Event) → HasParts w → let after = (step w event).1 in AreStillRows w.now (filter (λ row. is_there after.files row.target) w.names) after.names
name_rows_stay w event k = in_all w (λ answer. AreStillRows w.now (filter (λ row. is_there (answer.1).files row.target) w.names) (answer.1).names) (plan w event) (λ refusal. same w k w refl (unchanged w.now w.names)) (still w k event)
