-- The clock, policies and the making of a file keep a world well formed.
use Rattle.ele_model.proofs.Basics.{◌≡◌, ℕ, ◌+◌, ◌≤◌, false, List, [], ◌∷◌, ◌++◌, length-append, sym, subst, arith, is_some, AllByRecursion, nat_tests, find-append, list_any-append, all-push, all-weaker, all-update_first, later-push}
use Rattle.ele_model.proofs.Basics.{later-update_first, length-update_first, list_any-update_first}
use Rattle.ele_model.proofs.Words.{last_moment, Policy, governed_by, set_policy, after_change, Time, SetDirectoryDefault, MakeFile, SetFilePolicy, live_target, IsPolicy, IsHoused, IsFile, IsNameRow, AreApart, IsVersion, IsDraft, Part, Files, Names, Versions, Drafts}
use Rattle.ele_model.proofs.Words.{Readers, Current, Holds, HasParts, World, root, is_directory, is_file, next_of, FileRow, NameRow, File}
use Rattle.ele_model.proofs.Readers.{read_on}
use Rattle.ele_model.proofs.Created.{new_file, new_name, first_version, created, made_is}
use Rattle.ele_model.proofs.Files.{next_of-push, next_of-given, next_of-new, next_of-set_policy}
use Rattle.ele_model.proofs.Homes.{homes_more, ended_more}
use Rattle.ele_model.proofs.KeptGroups.{groups_on}
use Rattle.ele_model.proofs.May.{MayMake}
use Rattle.ele_model.proofs.Writers.{written_more}
use Rattle.ele_model.proofs.NameParts.{all_apart, names_more, tree_more}

-- ---- the clock

pub time_keeps : (w : World) (to : ℕ) → to ≤ last_moment → w.now ≤ to → HasParts w → HasParts (after_change w (Time to))
time_keeps w to fits le k = record { holds = λ part. grind (arith, nat_tests, k.holds part, all-weaker (IsNameRow w.files w.now) (IsNameRow w.files to) w.names, all-weaker (IsVersion w.files w.now) (IsVersion w.files to) w.versions, all-weaker (IsDraft w.files w.now) (IsDraft w.files to) w.drafts, groups_on w.made.groups w.files w.files w.now to w.groups) }

-- ---- a directory or a file has another policy

pub govern_keeps : (w : World) (directory : ℕ) (policy : Policy) → IsPolicy policy → HasParts w → HasParts (after_change w (SetDirectoryDefault directory policy))
govern_keeps w directory policy is k = record { holds = λ part. grind (arith, nat_tests, k.holds part, list_any-update_first (is_directory directory) (is_directory root) (governed_by policy) w.directories, all-update_first (is_directory directory), later-update_first (is_directory directory), length-update_first (is_directory directory) (governed_by policy) w.directories, all-weaker (IsHoused w.directories w.names), list_any-update_first (is_directory directory)) }

pub put_under_keeps : (w : World) (file : ℕ) (policy : Policy) → IsPolicy policy → HasParts w → HasParts (after_change w (SetFilePolicy file policy))
put_under_keeps w file policy is k = record { holds = by } where
  by : (part : Part) → Holds (after_change w (SetFilePolicy file policy)) part
  by Files = grind (arith, nat_tests, k.holds Files, all-update_first (is_file file) (IsFile w.made.files w.made.versions) (IsFile w.made.files w.made.versions) (set_policy policy) w.files, later-update_first (is_file file))
  by Current = λ id live. rw (next_of-set_policy w.files file id policy) (k.holds Current id live)
  by part = grind (arith, nat_tests, k.holds part, all-weaker, next_of-set_policy, groups_on, length-update_first (is_file file) (set_policy policy) w.files)

-- ---- a file is made

-- each row of a name that isn't live is over when the name is born again
pub apart_from_new : (w : World) (directory : ℕ) (name : List ℕ) (named : NameRow) → HasParts w → is_some (live_target w.names directory name) ≡ false
    → named.directory ≡ directory → named.name ≡ name → named.birth ≡ w.now → AllByRecursion (λ row. AreApart row named) w.names
apart_from_new w directory name named k = all_apart w.files w.now w.names directory name named (k.holds Names).each

module _ (w : World) (directory : ℕ) (name : List ℕ) (policy : Policy) where
  abbrev id : ℕ
  id = w.made.files + 1

  abbrev files : List FileRow
  files = w.files ++ new_file id policy ∷ []

  created_keeps : MayMake w directory name id policy → HasParts w → HasParts (created w directory name id policy)
  created_keeps may k = record { holds = by } where
    new_next : next_of files id ≡ 2
    new_next = next_of-new w.made.files w.made.versions w.files (new_file id policy) (k.holds Files).each (omega arith)

    by : (part : Part) → Holds (created w directory name id policy) part
    by Files = grind (arith, nat_tests, k.holds Files, all-push, all-weaker, later-push)
    by Names = names_more files w.now w.names directory name (File id) may.named.free (omega (arith, new_next)) (grind (arith, nat_tests, k.holds Names, all-weaker (IsNameRow w.files w.now) (IsNameRow files w.now) w.names, next_of-push))
    by Versions = grind (arith, nat_tests, k.holds Versions, k.holds Files, all-push, files, first_version, all-weaker, next_of-push, new_next, later-push, next_of-given)
    by Drafts = grind (arith, nat_tests, k.holds Drafts, all-weaker, files, next_of-push, written_more)
    by Readers = read_on w.versions (w.versions ++ first_version w id ∷ []) w.handles (λ f n held. grind (arith, nat_tests, list_any-append)) (k.holds Readers)
    by Current = grind (arith, nat_tests, k.holds Current, new_next, find-append, list_any-append)
    by part = grind (arith, nat_tests, k.holds part, length-append, homes_more w.directories w.names (new_name w directory name id) may.named.home may.named.reached, tree_more w.now w.names directory name (File id), all-push, first_version, ended_more, list_any-append, groups_on w.made.groups w.files files w.now w.now w.groups, next_of-push)

pub make_keeps : (w : World) (directory : ℕ) (name : List ℕ) (id : ℕ) (policy : Policy) → MayMake w directory name id policy → HasParts w → HasParts (after_change w (MakeFile directory name id policy))
make_keeps w directory name id policy may k =
    subst (λ n. MayMake w directory name n policy → HasParts (after_change w (MakeFile directory name n policy))) (sym may.next)
    (λ m. rw (made_is w directory name policy k) (created_keeps w directory name policy m k)) may
