-- A file's rows in a well-formed world, and which are newer than one of them, by its place.
use Rattle.ele_model.proofs.Basics.{all-found, ◌≡◌, ℕ, ◌<◌, ◌≤◌, false, List, [], ◌∷◌, ◌++◌, Some, filter, arith, IfSome, AllByRecursion, filter-append, IfSome_then, nat_tests, AllLater, all-weaker, all-filter, all-map, all-right}
use Rattle.ele_model.proofs.Basics.{later-right, later-filter, later-around, filter-all, filter-none}
use Rattle.ele_model.proofs.Words.{is_file, last_moment, IsLawful, FileRow, VersionRow, FileView, file_view, is_version_of, is_newer, closings, beside, Now, Files, Versions, IsFile, IsVersion, ArePlaced, HasParts, World, policy_of, Law}
use Rattle.ele_model.proofs.Formed.{law_of}

-- the version didn't end before it closed
abbrev pub IsLife : VersionRow → Type 0
IsLife row = IfSome row.ended (λ ended. row.closed ≤ ended)

-- of two rows of one file the earlier has the smaller number, and had ended when the later closed
pub record Precedes (earlier later : VersionRow) : Type 0 where
  pub number : earlier.number < later.number
  pub ended : ℕ
  pub is_ended : earlier.ended ≡ Some ended
  pub by_then : ended ≤ later.closed

pub precedes : (x y : VersionRow) → ArePlaced x y → x.file ≡ y.file → Precedes x y
precedes x y placed same = grind (arith, nat_tests)

-- what is true of each file's policy and rows
pub record IsView (v : FileView) : Type 0 where
  pub governed : IfSome v.policy IsLawful
  pub lives : AllByRecursion IsLife v.rows
  pub placed : AllLater Precedes v.rows

-- ---- what a well-formed world says of its rows

pub now_of : (w : World) → HasParts w → w.now ≤ last_moment
now_of w k = k.holds Now

pub lives_in : (files : List FileRow) (now : ℕ) (rows : List VersionRow) → AllByRecursion (IsVersion files now) rows → AllByRecursion IsLife rows
lives_in files now rows = all-weaker (IsVersion files now) IsLife rows (λ row is. IfSome_then row.ended is.ended (λ ended life. life.0))

pub lives_of : (w : World) → HasParts w → AllByRecursion IsLife w.versions
lives_of w k = lives_in w.files w.now w.versions (k.holds Versions).each

pub placed_of : (w : World) → HasParts w → AllLater ArePlaced w.versions
placed_of w k = (k.holds Versions).placed

pub policies_of : (w : World) → HasParts w → AllByRecursion (λ row. IsLawful row.policy) w.files
policies_of w k = all-weaker (IsFile w.made.files w.made.versions) (λ row. IsLawful row.policy) w.files (λ row is. law_of (k.holds Law) row.policy is.policy) (k.holds Files).each

pub policy_is : (files : List FileRow) (file : ℕ) → AllByRecursion (λ row. IsLawful row.policy) files → IfSome (policy_of files file) IsLawful
policy_is files file all = grind (arith, nat_tests, all-found (is_file file) (λ row. IsLawful row.policy) files)

-- each file of a world is so whose rows are
pub view_in : (w : World) (file : ℕ) → AllByRecursion (λ row. IsLawful row.policy) w.files → AllByRecursion IsLife w.versions → AllLater ArePlaced w.versions → IsView (file_view w file)
view_in w file policies lives placed = grind (arith, nat_tests, policy_is w.files file policies, all-filter IsLife (is_version_of file) w.versions lives, later-filter ArePlaced Precedes (is_version_of file) w.versions, precedes)

pub view_is : (w : World) → HasParts w → (file : ℕ) → IsView (file_view w file)
view_is w k file = view_in w file (policies_of w k) (lives_of w k) (placed_of w k)

-- ---- the newer rows

-- they are those after it
pub newer_is : (xs : List VersionRow) (row : VersionRow) (ys : List VersionRow) → AllLater Precedes (xs ++ row ∷ ys) → filter (is_newer row) (xs ++ row ∷ ys) ≡ ys
newer_is xs row ys placed = grind (arith, nat_tests, later-around Precedes xs, filter-append, filter-none, all-weaker, filter-all)

all_behind : (x row : VersionRow) (ys : List VersionRow) → Precedes x row → AllByRecursion (Precedes row) ys → filter (is_newer x) ys ≡ ys
all_behind x row ys before all = grind (arith, nat_tests, filter-all, all-weaker (Precedes row))

-- of one before the row: some before the row, the row, and all after it
pub newer_before : (x : VersionRow) (xs : List VersionRow) (row : VersionRow) (ys : List VersionRow) → AllLater Precedes (xs ++ row ∷ ys) → Precedes x row → filter (is_newer x) (xs ++ row ∷ ys) ≡ filter (is_newer x) xs ++ row ∷ ys
newer_before x xs row ys placed before = grind (arith, nat_tests, filter-append (is_newer x) xs (row ∷ ys), all_behind x row ys before, later-around Precedes xs row ys placed)

-- and without the row the others
pub newer_without : (x : VersionRow) (xs : List VersionRow) (row : VersionRow) (ys : List VersionRow) → AllLater Precedes (xs ++ row ∷ ys) → Precedes x row → filter (is_newer x) (xs ++ ys) ≡ filter (is_newer x) xs ++ ys
newer_without x xs row ys placed before = grind (arith, nat_tests, filter-append (is_newer x) xs ys, all_behind x row ys before (later-around Precedes xs row ys placed).1, later-around Precedes xs row ys placed)

-- of one after the row: the same with it and without
pub newer_behind : (x : VersionRow) (xs : List VersionRow) (row : VersionRow) (ys : List VersionRow) → Precedes row x → filter (is_newer x) (xs ++ row ∷ ys) ≡ filter (is_newer x) (xs ++ ys)
newer_behind x xs row ys after = grind (arith, nat_tests, filter-append)

-- ---- their closings

-- they never fall
closings_rise : (rows : List VersionRow) → AllByRecursion IsLife rows → AllLater Precedes rows → AllLater ◌≤◌ (closings rows)
closings_rise [] lives placed = tt
closings_rise (x ∷ xs) lives placed = grind (arith, nat_tests, all-map (λ row. row.closed) (◌≤◌ x.closed) xs, all-weaker (Precedes x) (λ row. x.closed ≤ row.closed) xs, closings_rise xs)

-- ---- the rows of a row's own file

pub own_rows : (before : List VersionRow) (row : VersionRow) (behind : List VersionRow) → filter (is_version_of row.file) (before ++ row ∷ behind) ≡ filter (is_version_of row.file) before ++ row ∷ filter (is_version_of row.file) behind
own_rows before row behind = grind (arith, nat_tests, filter-append)

-- so the closings beside a version of a world never fall either, from its own on
pub closings_in_order : (w : World) (before : List VersionRow) (row : VersionRow) (behind : List VersionRow) → IsView (file_view w row.file) → w.versions ≡ before ++ row ∷ behind
    → AllLater ◌≤◌ (row.closed ∷ (beside (file_view w row.file) row).newer)
closings_in_order w before row behind view whole = grind (arith, nat_tests, own_rows before row behind, closings_rise (row ∷ filter (is_version_of row.file) behind), newer_is (filter (is_version_of row.file) before) row (filter (is_version_of row.file) behind), all-right IsLife (filter (is_version_of row.file) before) (row ∷ filter (is_version_of row.file) behind), later-right Precedes (filter (is_version_of row.file) before) (row ∷ filter (is_version_of row.file) behind))

-- of another file
pub other_rows : (file : ℕ) (before : List VersionRow) (row : VersionRow) (behind : List VersionRow) → is_version_of file row ≡ false → filter (is_version_of file) (before ++ row ∷ behind) ≡ filter (is_version_of file) (before ++ behind)
other_rows file before row behind other = grind (arith, nat_tests, filter-append)
