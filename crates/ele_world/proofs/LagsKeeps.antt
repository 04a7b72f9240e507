-- A world that lags: its files that are there are seen as in the other, so the same of its versions are due.
use Rattle.ele_model.proofs.Basics.{◌≡◌, ℕ, None, Bool, true, false, not, List, refl, ap, sym, ◌∙◌, arith, nat_tests, filter, list_any, AllByRecursion, all-both, all-filter, all-weaker, filter-passes, list_any-filter, any-found}
use Rattle.ele_lists.proofs.Filters.{find-filter}
use Rattle.ele_model.proofs.Words.{first_due, kept_rows, file_view, is_file, is_version, is_live_name_of, next_of, policy_of, HasParts, World}
use Rattle.ele_world.proofs.Words.{FileRow, NameRow, VersionRow}
use Rattle.ele_world.specs.AnyDueLeave.{AreDue, without_versions}
use Rattle.ele_model.specs.Due.{is_due_at}
use Rattle.ele_world.specs.Lags.{Lags}
use Rattle.ele_world.specs.Less.{less, is_dropped, IsEmptied}
use Rattle.ele_world.proofs.AnyDueLeave.{any_due_leave, remains, stays_due, IsDueAs}
use Rattle.ele_model.proofs.DropViews.{SeesSame, due_same, kept_same}
use Rattle.ele_model.proofs.PassEnds.{nothing_due}
use Rattle.ele_model.proofs.Versions.{IsFound, all_found}
use Rattle.ele_model.proofs.Views.{placed_of}

-- ---- of a file that isn't dropped the same is seen

abbrev pub stays_file : (ℕ → Bool) → FileRow → Bool
stays_file dropped row = not (dropped row.id)

abbrev pub stays_name : (ℕ → Bool) → NameRow → Bool
stays_name dropped row = not (is_dropped dropped row.target)

module _ (dropped : ℕ → Bool) (file : ℕ) (stays : dropped file ≡ false) where
  row_stays : (row : FileRow) → is_file file row ≡ true → stays_file dropped row ≡ true
  row_stays row is = grind (arith, nat_tests)

  name_stays : (row : NameRow) → stays_name dropped row ≡ false → is_live_name_of file row ≡ false
  name_stays row gone = grind (arith, nat_tests)

  pub next_same : (files : List FileRow) → next_of (filter (stays_file dropped) files) file ≡ next_of files file
  next_same files = rw (find-filter (is_file file) (stays_file dropped) files row_stays) refl

  pub policy_same : (files : List FileRow) → policy_of (filter (stays_file dropped) files) file ≡ policy_of files file
  policy_same files = rw (find-filter (is_file file) (stays_file dropped) files row_stays) refl

  pub live_same : (names : List NameRow) → list_any (is_live_name_of file) (filter (stays_name dropped) names) ≡ list_any (is_live_name_of file) names
  live_same names = list_any-filter (is_live_name_of file) (stays_name dropped) names name_stays

-- ---- of the versions that are left

is_own : (row : VersionRow) → is_version row.file row.number row ≡ true
is_own row = grind (arith, nat_tests)

module _ (gone : ℕ → ℕ → Bool) (dropped : ℕ → Bool) (v : World) (k : HasParts v) (due : AreDue v gone) (emptied : (file : ℕ) → dropped file ≡ true → IsEmptied gone v file) where
  abbrev pub u : World
  u = less gone dropped v

  -- the world with all files
  abbrev pub whole : World
  whole = without_versions gone v

  -- no version is left of a file that is dropped
  abbrev pub IsOfLeft : VersionRow → Type 0
  IsOfLeft row = dropped row.file ≡ false

  of_left : (row : VersionRow) → remains gone row ≡ true → IsFound v.versions row → IsOfLeft row
  of_left row left found = by (dropped row.file) refl where
    by : (b : Bool) → dropped row.file ≡ b → b ≡ false
    by false e = refl
    by true e = grind (arith, nat_tests, (emptied row.file e).unheld row.number (any-found (is_version row.file row.number) (is_version row.file row.number) v.versions row found (is_own row)))

  pub all_of_left : AllByRecursion IsOfLeft whole.versions
  all_of_left = all-weaker (λ row. (remains gone row ≡ true) × IsFound v.versions row) IsOfLeft whole.versions (λ row h. of_left row h.0 h.1) (all-both (λ row. remains gone row ≡ true) (IsFound v.versions) whole.versions (filter-passes (remains gone) v.versions) (all-filter (IsFound v.versions) (remains gone) v.versions (all_found v.versions (placed_of v k))))

  sees : SeesSame whole u
  sees = record {
    now = refl;
    versions = refl;
    views = all-weaker IsOfLeft (λ row. file_view u row.file ≡ file_view whole row.file) whole.versions (λ row stays. rw (policy_same dropped row.file stays v.files, live_same dropped row.file stays v.names) refl) all_of_left;
  }

  pub kept_lags : kept_rows u ≡ kept_rows v
  kept_lags = kept_same whole u sees ∙ (any_due_leave v gone k due).kept

  -- each is due as in the other world
  pub due_lags : AllByRecursion (λ row. is_due_at u row u.now ≡ is_due_at v row v.now) u.versions
  due_lags = all-weaker (λ row. ((at : ℕ) → is_due_at u row at ≡ is_due_at whole row at) × IsDueAs v whole row) (λ row. is_due_at u row u.now ≡ is_due_at v row v.now) whole.versions (λ row h. h.0 v.now ∙ h.1) (all-both _ _ whole.versions (due_same whole u sees) (stays_due v gone k due).same)

pub lags_keeps : (u v : World) → HasParts u → HasParts v → Lags u v → (kept_rows u ≡ kept_rows v) × (first_due u ≡ None → u.versions ≡ kept_rows v)
lags_keeps u v formed k lags =
    let same = ap kept_rows lags.is ∙ kept_lags lags.gone lags.dropped v k lags.due lags.emptied in
    (same, λ none. sym (nothing_due u formed none) ∙ same)
