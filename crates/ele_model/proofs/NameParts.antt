-- A name more, and the end of one, in the parts of a well-formed world that speak of names.
use Rattle.ele_model.proofs.Basics.{◌≡◌, ℕ, ◌≤◌, Bool, true, false, List, [], ◌∷◌, ◌++◌, Some, arith, ◌+◌, ◌<◌, length, is_some, is_none, AllByRecursion, list_any, false≢true, nat_tests, bytes_eq-Decides, update_first, all-any, all-push, all-weaker}
use Rattle.ele_model.proofs.Basics.{all-both, all-update_first, all-not_found, later-push, later-update_first, not_found, later-update_found, list_any-update_found, AllLater}
use Rattle.ele_model.proofs.Words.{born_row, dies, is_live_directory, live_target, is_live_name, IsThere, IsNameRow, AreApart, AreNames, AreOthers, AreCounted, Counted, HasParts, FileRow, NameRow, Target, File, Directory, World, is_target_file}
use Rattle.ele_model.proofs.Words.{is_live_name_of}

-- ---- a name more

no_live : (names : List NameRow) (directory : ℕ) (name : List ℕ) → is_some (live_target names directory name) ≡ false → AllByRecursion (λ row. is_live_name directory name row ≡ false) names
no_live names directory name h = grind (arith, nat_tests, all-not_found (is_live_name directory name) names, false≢true)

-- each row of a name that isn't live is over when the name is born again
pub all_apart : (files : List FileRow) (now : ℕ) (names : List NameRow) (directory : ℕ) (name : List ℕ) (named : NameRow) → AllByRecursion (IsNameRow files now) names → is_some (live_target names directory name) ≡ false
    → named.directory ≡ directory → named.name ≡ name → named.birth ≡ now → AllByRecursion (λ row. AreApart row named) names
all_apart files now names directory name named each free d n b = grind (arith, nat_tests, all-weaker (λ row. (is_live_name directory name row ≡ false) × IsNameRow files now row) (λ row. AreApart row named) names, all-both (λ row. is_live_name directory name row ≡ false) (IsNameRow files now) names (no_live names directory name free) each, bytes_eq-Decides, false≢true)

pub names_more : (files : List FileRow) (now : ℕ) (names : List NameRow) (directory : ℕ) (name : List ℕ) (target : Target) → is_some (live_target names directory name) ≡ false → IsThere files target → AreNames files now names → AreNames files now (names ++ born_row directory name target now ∷ [])
names_more files now names directory name target free there are = grind (arith, nat_tests, all-push (IsNameRow files now) names, later-push AreApart names, all_apart files now names directory name (born_row directory name target now))

-- no live name means it, if it is a directory
abbrev pub IsUnnamed : List NameRow → Target → Type 0
IsUnnamed names (File file) = Unit {0}
IsUnnamed names (Directory id) = AllByRecursion (λ row. is_live_directory id row ≡ false) names

pub tree_more : (now : ℕ) (names : List NameRow) (directory : ℕ) (name : List ℕ) (target : Target) → IsUnnamed names target → AllLater AreOthers names → AllLater AreOthers (names ++ born_row directory name target now ∷ [])
tree_more now names directory name target none tree = grind (arith, nat_tests, later-push, false≢true, all-any, all-weaker)

-- so many name rows, at most one more than there were
pub counted_more : (w : World) (rows : ℕ) → HasParts w → w.made.names < w.limits.names → rows ≤ length w.names + 1 → AreCounted (record w.made { names = w.made.names + 1 }) w.limits (length w.files) rows (length w.versions) (length w.drafts)
counted_more w rows k room le = grind (arith, nat_tests, k.holds Counted)

-- ---- the end of a name

pub still_none : (directory : ℕ) (name : List ℕ) (row : NameRow) → is_live_name directory name row ≡ true → is_none row.death ≡ true
still_none directory name row h = grind (arith, nat_tests)

module _ (now : ℕ) (names : List NameRow) (directory : ℕ) (name : List ℕ) where
  abbrev p : NameRow → Bool
  p = is_live_name directory name

  abbrev after : List NameRow
  after = update_first p (dies now) names

  pub names_end : (files : List FileRow) → AreNames files now names → AreNames files now after
  names_end files are = grind (arith, nat_tests, all-update_first p (IsNameRow files now) (IsNameRow files now) (dies now) names, later-update_found p AreApart (dies now) names, still_none directory name, false≢true)

  pub tree_end : AllLater AreOthers names → AllLater AreOthers after
  tree_end tree = grind (arith, nat_tests, later-update_first p AreOthers (dies now) names, false≢true)

  -- a name that wasn't live isn't
  pub free_still : (other : ℕ) (new : List ℕ) → is_some (live_target names other new) ≡ false → is_some (live_target after other new) ≡ false
  free_still other new free = grind (arith, nat_tests, all-update_first p, no_live names other new free, not_found (is_live_name other new) after)

  -- a file that the name isn't of is live as before
  pub live_still : (target : Target) → live_target names directory name ≡ Some target → (file : ℕ) → is_target_file file target ≡ false → list_any (is_live_name_of file) after ≡ list_any (is_live_name_of file) names
  live_still target stands file other = grind (arith, nat_tests, list_any-update_found)
