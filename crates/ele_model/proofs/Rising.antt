-- The time, the counts and the files' numbers rise with each event.
use Rattle.ele_model.proofs.Basics.{arith, ◌≡◌, ℕ, ◌+◌, ◌<◌, ◌≤◌, true, false, List, [], ◌∷◌, ◌++◌, refl, ◌⊎◌, inl, AllLater, list_any, update_first, remove_first, list_any-append, list_any-update_first, nat_tests, ◌==◌, ◌&&◌, not, all-weaker}
use Rattle.ele_model.proofs.Words.{World, content_of, Event, Close, Abandon, CleanOne, Create, Undelete, Save, Revert, Restore, SetPolicy, default_of, Read, FileRow, Policy, HasParts, Files, DropIdle, EndDraft, ShutHandle, Take, MakeFile, after_change, is_file, next_of, numbered_on, set_policy, plan, save_new_plan, Counts, without_file, step}
use Rattle.ele_model.specs.NumbersRise.{CountsOn, GoesOn}
use Rattle.ele_model.proofs.Dropped.{dropped, next_of-removed}
use Rattle.ele_model.proofs.Files.{next_of-numbered_le, next_of-set_policy, next_of-push}
use Rattle.ele_model.proofs.Elements.{any_none}
use Rattle.ele_model.proofs.PlanOutcomes.{AfterAll, in_all}

counts_stay : (made : Counts) → CountsOn made made
counts_stay made = record { files = omega arith; directories = omega arith; names = omega arith; versions = omega arith; handles = omega arith; groups = omega arith; members = omega arith; marks = omega arith }

-- ---- file rows

-- without a file that goes
pub removed_any : (files : List FileRow) (file other : ℕ) → AllLater (λ earlier later. earlier.id < later.id) files → list_any (is_file other) (remove_first (is_file file) files) ≡ (not (other == file) && list_any (is_file other) files)
removed_any [] file other placed = grind (arith, nat_tests)
removed_any (x ∷ xs) file other placed = grind (arith, nat_tests, any_none, all-weaker, removed_any xs file other placed.1)

-- each numbers on or goes, and any other is new
record AreOn (made : ℕ) (files after : List FileRow) : Type 0 where
  next : (file : ℕ) → (next_of files file ≤ next_of after file) ⊎ (list_any (is_file file) after ≡ false)
  fresh : (file : ℕ) → list_any (is_file file) after ≡ true → (list_any (is_file file) files ≡ true) ⊎ (made < file)

stay_on : (made : ℕ) (files : List FileRow) → AreOn made files files
stay_on made files = record { next = λ file. inl (omega arith); fresh = λ file there. inl there }

number_on : (made file : ℕ) (files after : List FileRow) → AreOn made files after → AreOn made files (update_first (is_file file) numbered_on after)
number_on made file files after on = record {
  next = λ other. grind (arith, nat_tests, on.next other, next_of-numbered_le after file other, list_any-update_first (is_file file) (is_file other) numbered_on after);
  fresh = λ other there. on.fresh other (grind (arith, nat_tests, there, list_any-update_first (is_file file) (is_file other) numbered_on after));
}

put_on : (made file : ℕ) (policy : Policy) (files : List FileRow) → AreOn made files (update_first (is_file file) (set_policy policy) files)
put_on made file policy files = record {
  next = λ other. grind (arith, nat_tests, next_of-set_policy files file other policy);
  fresh = λ other there. inl (grind (arith, nat_tests, there, list_any-update_first (is_file file) (is_file other) (set_policy policy) files));
}

one_more : (made : ℕ) (files : List FileRow) (row : FileRow) → made < row.id → AreOn made files (files ++ row ∷ [])
one_more made files row new = record {
  next = λ other. grind (arith, nat_tests, next_of-push files row other);
  fresh = λ other there. grind (arith, nat_tests, there, list_any-append (is_file other) files (row ∷ []));
}

one_less : (made file : ℕ) (files : List FileRow) → AllLater (λ earlier later. earlier.id < later.id) files → AreOn made files (remove_first (is_file file) files)
one_less made file files placed = record {
  next = λ other. grind (arith, nat_tests, removed_any files file other placed, next_of-removed files file other);
  fresh = λ other there. inl (grind (arith, nat_tests, there, removed_any files file other placed));
}

-- ---- each event

module _ (w : World) (k : HasParts w) where
  on : (v : World) → w.now ≤ v.now → CountsOn w.made v.made → v.limits ≡ w.limits → AreOn w.made.files w.files v.files → GoesOn w v
  on v now made limits files = record { now = now; made = made; limits = limits; next = files.next; fresh = files.fresh }

  same : (v : World) → w.now ≤ v.now → CountsOn w.made v.made → v.limits ≡ w.limits → v.files ≡ w.files → GoesOn w v
  same v now made limits files = on v now made limits (rw files (stay_on w.made.files w.files))

  drops : (u : World) (file : ℕ) → u.now ≡ w.now → u.made ≡ w.made → u.limits ≡ w.limits → u.files ≡ w.files → GoesOn w (after_change u (DropIdle file))
  drops u file now made limits files = dropped (GoesOn w) u file
      (λ idle. on (without_file u file) (omega (arith, now)) (rw made (counts_stay w.made)) limits (rw files (one_less w.made.files file w.files (k.holds Files).placed)))
      (λ busy. same u (omega (arith, now)) (rw made (counts_stay w.made)) limits files)

  still : (v : World) → v.now ≡ w.now → v.made ≡ w.made → v.limits ≡ w.limits → v.files ≡ w.files → GoesOn w v
  still v now made limits files = same v (omega (arith, now)) (rw made (counts_stay w.made)) limits files

  made : (directory : ℕ) (name : List ℕ) (policy : Policy) → GoesOn w (after_change w (MakeFile directory name (w.made.files + 1) policy))
  made directory name policy =
      let row : FileRow = record { id = w.made.files + 1; policy = policy; next = 1 } in
      on (after_change w (MakeFile directory name (w.made.files + 1) policy)) (omega arith) (grind arith) refl
      (number_on w.made.files (w.made.files + 1) w.files (w.files ++ row ∷ []) (one_more w.made.files w.files row (omega arith)))

  numbered : (v : World) (file : ℕ) → w.now ≤ v.now → CountsOn w.made v.made → v.limits ≡ w.limits → v.files ≡ update_first (is_file file) numbered_on w.files → GoesOn w v
  numbered v file now made limits files = on v now made limits (rw files (number_on w.made.files file w.files w.files (stay_on w.made.files w.files)))

  -- a file is made, and numbers on once more
  saved_new : (at : ℕ × List ℕ) (bytes : List ℕ) → AfterAll w (λ answer. GoesOn w (answer.1)) (save_new_plan w at bytes)
  saved_new at bytes = λ files names versions.
      let id = w.made.files + 1 in
      let row : FileRow = record { id = id; policy = default_of w.directories at.0; next = 1 } in
      let more = w.files ++ row ∷ [] in
      on _ (omega arith) (grind arith) refl
      (number_on w.made.files id w.files (update_first (is_file id) numbered_on more) (number_on w.made.files id w.files more (one_more w.made.files w.files row (omega arith))))

  goes : (event : Event) → AfterAll w (λ answer. GoesOn w (answer.1)) (plan w event)
  goes (Close handle) = λ read found. (λ none. still _ refl refl refl refl, λ file writes. (λ other. still _ refl refl refl refl, λ last. (λ none. still _ refl refl refl refl, λ draft drafted. (λ edited. numbered _ file (omega arith) (grind arith) refl refl, λ fresh. drops (after_change (after_change w (ShutHandle handle)) (EndDraft file)) file refl refl refl refl))))
  goes (Abandon handle) = λ file writes. (λ other. still _ refl refl refl refl, λ last. drops (after_change (after_change w (ShutHandle handle)) (EndDraft file)) file refl refl refl refl)
  goes CleanOne = (λ none. still w refl refl refl refl, λ key first. drops (after_change w (Take key.file key.number)) key.file refl refl refl refl)
  goes (Create path) = λ at found free files names versions. made at.0 at.1 (default_of w.directories at.0)
  goes (Undelete path) = λ at found free lost last returns. (λ none names. same _ (omega arith) (grind arith) refl refl, λ file none drafts names versions. numbered _ file (omega arith) (grind arith) refl refl)
  goes (Save path bytes) = λ at found standing stood fits. (λ none. saved_new at bytes, λ file is drafts versions. numbered _ file (omega arith) (grind arith) refl refl)
  goes (Revert path number) = λ file found row meant drafts versions. numbered _ file (omega arith) (grind arith) refl refl
  goes (Restore path moment) = λ row was at found standing stood. (
    λ none. (λ live. saved_new at (content_of row.cells), λ nameless drafts names versions. numbered _ row.file (omega arith) (grind arith) refl refl),
    λ file is. (λ own drafts versions. numbered _ file (omega arith) (grind arith) refl refl, λ other drafts versions. numbered _ file (omega arith) (grind arith) refl refl),
  )
  goes (SetPolicy path policy) = λ file found. on _ (omega arith) (counts_stay w.made) refl (put_on w.made.files file policy w.files)
  goes (Read source) = grind (arith, nat_tests, same)
  goes event = grind (arith, nat_tests, same)

pub numbers_rise : (w : World) (event : Event) → HasParts w → GoesOn w ((step w event).1)
numbers_rise w event k = in_all w (λ answer. GoesOn w (answer.1)) (plan w event) (λ refusal. same w k w (omega arith) (counts_stay w.made) refl refl) (goes w k event)
