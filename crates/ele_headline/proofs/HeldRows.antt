-- What a change does to the row of a version that is held before it: nothing, or it ends, or it is taken.
use Rattle.ele_model.proofs.Basics.{◌≡◌, ◌==◌, ◌&&◌, ℕ, ◌<◌, ◌≤◌, Bool, true, false, cond, List, [], ◌∷◌, Option, None, refl, ap, arith, ◌⊎◌, inl, find, AllByRecursion, option_map, false≢true, nat_tests, update_first, remove_first, all-weaker}
use Rattle.ele_model.proofs.Basics.{not_found, find-insert_before, find-remove_first, all-push, all-update_first, all-remove_first, all-found, found_passes, AllLater}
use Rattle.ele_model.proofs.Words.{Cell, Change, MakeFile, SetFilePolicy, Append, Take, after_change, ended_at, next_version, with_end, with_file, with_name, with_version, EndFileName, Revive, DropIdle, without_name, version_cells, numbered_on, set_policy}
use Rattle.ele_model.proofs.Words.{ArePlaced, World, next_of, is_version, is_version_after, is_live, is_file}
use Rattle.ele_model.proofs.Dropped.{dropped_versions}
use Rattle.ele_model.proofs.May.{MayBy, MayClean}
use Rattle.ele_headline.proofs.Words.{Event, FileRow, File, VersionRow}

-- ---- a number that was given isn't given again

-- if it is of the file, the row's next number is after the version
abbrev pub IsBehind : ℕ → ℕ → FileRow → Type 0
IsBehind file number row = row.id ≡ file → number < row.next

-- the file's number was given, and its row, if it is still there, has a next number after the version
pub record IsPast (w : World) (file number : ℕ) : Type 0 where
  pub given : file ≤ w.made.files
  pub first : 1 ≤ number
  pub past : AllByRecursion (IsBehind file number) w.files

-- by what the file numbers on with
pub all_behind : (files : List FileRow) (file number : ℕ) → AllLater (λ earlier later. earlier.id < later.id) files → number < next_of files file → AllByRecursion (IsBehind file number) files
all_behind [] file number placed less = tt
all_behind (x ∷ xs) file number placed less = grind (arith, nat_tests, all-weaker, false≢true, all_behind xs file number placed.1)

past_numbered : (files : List FileRow) (of file number : ℕ) → AllByRecursion (IsBehind file number) files → AllByRecursion (IsBehind file number) (update_first (is_file of) numbered_on files)
past_numbered files of file number = grind (arith, nat_tests, all-update_first (is_file of) (IsBehind file number) (IsBehind file number) numbered_on files)

-- so it isn't the next number
not_next : (w : World) (of file number opened : ℕ) (cells : List Cell) → IsPast w file number → is_version file number (next_version w of opened cells) ≡ false
not_next w of file number opened cells is = grind (arith, nat_tests, found_passes, all-found)

pub change_past : (event : Event) (first w : World) (change : Change) (file number : ℕ) → MayBy event first w change → IsPast w file number → IsPast (after_change w change) file number
change_past event first w (MakeFile directory name id policy) file number may is = grind (arith, nat_tests, past_numbered, all-push)
change_past event first w (SetFilePolicy of policy) file number may is = grind (arith, nat_tests, all-update_first (is_file of) (IsBehind file number) (IsBehind file number) (set_policy policy) w.files)
change_past event first w (Append of opened cells) file number may is = record { given = is.given; first = is.first; past = past_numbered w.files of file number is.past }
change_past event first w (Revive directory name of again) file number may is = record { given = is.given; first = is.first; past = past_numbered w.files of file number is.past }
change_past event first w (DropIdle of) file number may is = grind (arith, nat_tests, all-remove_first)
change_past event first w change file number may is = record { given = is.given; first = is.first; past = is.past }

-- ---- the row

pub data Moves (event : Event) (first : World) (now : ℕ) (rows : List VersionRow) (file number : ℕ) (before after : Option VersionRow) : Type 0 where
  Same : after ≡ before → Moves event first now rows file number before after
  Ended : after ≡ option_map (ended_at now) before → Moves event first now rows file number before after
  Taken : (w : World) → MayClean event first w file number → rows ≡ w.versions → after ≡ None → Moves event first now rows file number before after

-- the version's row, if it is held
abbrev pub row_of : World → ℕ → ℕ → Option VersionRow
row_of w file number = find (is_version file number) w.versions

-- a change, which t doesn't see, of an element that passes p, changes the one found or none
pub found_updated : {X : Type 0} (p t : X → Bool) (f : X → X) (xs : List X) → ((x : X) → t (f x) ≡ t x) → (find t (update_first p f xs) ≡ find t xs) ⊎ (find t (update_first p f xs) ≡ option_map f (find t xs))
found_updated p t f [] same = inl refl
found_updated p t f (x ∷ xs) same = grind (arith, nat_tests, found_updated p t f xs same)

-- a version that is removed was there once
removed_gone : (file number : ℕ) (rows : List VersionRow) → AllLater ArePlaced rows → find (is_version file number) (remove_first (is_version file number) rows) ≡ None
removed_gone file number [] placed = refl
removed_gone file number (x ∷ xs) placed = grind (arith, nat_tests, not_found, all-weaker, removed_gone file number xs placed.1)

module _ (event : Event) (first : World) (file number : ℕ) where
  abbrev MovesTo : World → List VersionRow → Type 0
  MovesTo w rows = Moves event first w.now w.versions file number (row_of w file number) (find (is_version file number) rows)

  ends : (w : World) (of : ℕ) → MovesTo w (with_end w of)
  ends w of = grind (arith, nat_tests, found_updated)

  appends : (w : World) (of opened : ℕ) (cells : List Cell) → is_version file number (next_version w of opened cells) ≡ false → MovesTo w (with_version w of opened cells).versions
  appends w of opened cells other = rw (find-insert_before (is_version_after of (next_of w.files of)) (is_version file number) (next_version w of opened cells) (with_end w of) other) (ends w of)

  takes : (w : World) (of taken : ℕ) → MayClean event first w of taken → AllLater ArePlaced first.versions → of ≡ file → taken ≡ number → MovesTo w (remove_first (is_version of taken) w.versions)
  takes w of taken may placed a b = Taken w (rw (a, b) at may) refl (grind (arith, nat_tests, removed_gone of taken w.versions, may.same))

  pub change_moves : (w : World) (change : Change) → AllLater ArePlaced first.versions → MayBy event first w change → IsPast w file number → MovesTo w (after_change w change).versions
  change_moves w (MakeFile directory name id policy) placed may is = appends (with_name (with_file w id policy) directory name (File id)) id w.now [] (grind (arith, nat_tests, is.given, may.next))
  change_moves w (Append of opened cells) placed may is = appends w of opened cells (not_next w of file number opened cells is)
  change_moves w (Revive directory name of again) placed may is = appends (with_name w directory name (File of)) of w.now (version_cells w of again) (not_next (with_name w directory name (File of)) of file number w.now (version_cells w of again) (record { given = is.given; first = is.first; past = is.past }))
  change_moves w (EndFileName directory name of) placed may is = by (is_live (without_name w directory name) of) where
    by : (b : Bool) → MovesTo w (cond b w.versions (with_end (without_name w directory name) of))
    by true = Same refl
    by false = ends (without_name w directory name) of
  change_moves w (DropIdle of) placed may is = Same (ap (find (is_version file number)) (dropped_versions w of))
  change_moves w (Take of taken) placed may is = by ((of == file) && (taken == number)) refl where
    by : (b : Bool) → ((of == file) && (taken == number)) ≡ b → MovesTo w (remove_first (is_version of taken) w.versions)
    by true e = takes w of taken may placed (grind (arith, nat_tests)) (grind (arith, nat_tests))
    by false e = Same (find-remove_first (is_version of taken) (is_version file number) w.versions (λ x passes. grind (arith, nat_tests)))
  change_moves w change placed may is = Same refl
