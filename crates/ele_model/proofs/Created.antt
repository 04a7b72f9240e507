-- The result of making a file: a row after the files, the names and the versions.
use Rattle.ele_model.proofs.Basics.{◌≡◌, ℕ, ◌+◌, ◌<◌, true, false, List, [], ◌∷◌, ◌++◌, None, subst, sym, arith, AllByRecursion, nat_tests, list_any-append, all-weaker, append-nil, update_first-at, update_first-unfound, insert_before-skip}
use Rattle.ele_model.proofs.Words.{Policy, with_name, after_change, MakeFile, Drafts, Files, Versions, HasParts, World, next_of, has_draft, is_draft, is_live, is_file, is_version_after, numbered_on, FileRow, NameRow, File, VersionRow}
use Rattle.ele_model.proofs.Elements.{any_none}
use Rattle.ele_model.proofs.Files.{next_of-given, next_of-new}

-- ---- a file is made

abbrev pub new_file : ℕ → Policy → FileRow
new_file id policy = record { id = id; policy = policy; next = 2 }

abbrev pub new_name : World → ℕ → List ℕ → ℕ → NameRow
new_name w directory name id = record { directory = directory; name = name; target = File id; birth = w.now; death = None }

abbrev pub first_version : World → ℕ → VersionRow
first_version w id = record { file = id; number = 1; opened = w.now; closed = w.now; ended = None; cells = [] }

abbrev pub created : World → ℕ → List ℕ → ℕ → Policy → World
created w directory name id policy = record w {
  files = w.files ++ new_file id policy ∷ [];
  names = w.names ++ new_name w directory name id ∷ [];
  versions = w.versions ++ first_version w id ∷ [];
  made = record w.made { files = id; names = w.made.names + 1; versions = w.made.versions + 1 };
}

-- a file with a new name is live
pub named_live : (w : World) (directory : ℕ) (name : List ℕ) (id : ℕ) → is_live (with_name w directory name (File id)) id ≡ true
named_live w directory name id = grind (arith, nat_tests, list_any-append)

-- each version is of a file before
pub versions_before : (w : World) → HasParts w → AllByRecursion (λ row. row.file < w.made.files + 1) w.versions
versions_before w k = grind (arith, nat_tests, k.holds Files, k.holds Versions, all-weaker, next_of-given)

-- and so is each draft
pub undrafted_yet : (w : World) → HasParts w → has_draft w (w.made.files + 1) ≡ false
undrafted_yet w k = grind (arith, nat_tests, k.holds Files, k.holds Drafts, all-weaker, next_of-given, any_none (is_draft (w.made.files + 1)) w.drafts)

module _ (w : World) (directory : ℕ) (name : List ℕ) (policy : Policy) (k : HasParts w) where
  abbrev id : ℕ
  id = w.made.files + 1

  pub made_is : after_change w (MakeFile directory name (w.made.files + 1) policy) ≡ created w directory name (w.made.files + 1) policy
  made_is = grind (arith, nat_tests, k.holds Files, update_first-at (is_file id) numbered_on w.files (record { id = id; policy = policy; next = 1 }) [], all-weaker, update_first-unfound, versions_before w k, insert_before-skip (is_version_after id 1) (first_version w id) w.versions [], append-nil w.versions, next_of-new w.made.files w.made.versions w.files (record { id = id; policy = policy; next = 1 }), named_live)

  -- the file's next number is then 2
  pub made_next : next_of (after_change w (MakeFile directory name (w.made.files + 1) policy)).files (w.made.files + 1) ≡ 2
  made_next = subst (λ (v : World). next_of v.files (w.made.files + 1) ≡ 2) (sym made_is) (next_of-new w.made.files w.made.versions w.files (new_file id policy) (k.holds Files).each (omega arith))
