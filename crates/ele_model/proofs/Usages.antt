-- How changes of the world change usage.
use Rattle.ele_model.proofs.Basics.{◌≡◌, ℕ, ◌+◌, ◌*◌, ◌^◌, ◌<◌, ◌≤◌, false, cond, List, [], ◌∷◌, ◌++◌, ◌==◌, length, refl, arith}
use Rattle.ele_model.proofs.Basics.{AllByRecursion, flat_map, nat_tests, append-nil, length-append, flat_map-cons, filter-append, all-weaker, remove_first, filter-none, length-split}
use Rattle.ele_model.proofs.Words.{Kind, Policy, kind_of, is_kind, Usage, only_at, nothing, plus, Fits, Cell, Place, is_place, different, slots_few, VersionRow, DraftRow, is_of, is_file_of, places_from, places, bytes_in, usages}
use Rattle.ele_model.proofs.Words.{whole, part, ChangesOnly, World, is_version, FileRow, IsContent, IsFile, IsVersion, IsDraft, Counted, Files, Versions, Drafts, HasParts, longest_content, AreBounds}
use Rattle.ele_policy.specs.declared.policy.Kind.TheVariants as kinds
use Rattle.ele_model.specs.Usage.{usage_of}
use Rattle.ele_model.proofs.Created.{new_file, created, versions_before}
use Rattle.ele_model.proofs.Files.{next_of-given}
use Rattle.ele_model.proofs.OtherFiles.{versions-removed}
use Rattle.ele_model.proofs.Splits.{bytes_in-cons, file_moves, split_usage}

-- ---- a change of one file

-- the sums of the kind, as a change of one file leaves them
pub usage_changes : (file : ℕ) (w v : World) → ChangesOnly file w v → (k : Kind) → plus (usage_of v k) (part w file k w) ≡ plus (usage_of w k) (part w file k v)
unfolding usage_of
usage_changes file w v only k =
    let moves = file_moves file (is_file_of w.files k) (is_file_of v.files k) (λ id apart. only.kinds k id) w.versions v.versions w.drafts v.drafts only.versions only.drafts in
    grind (arith, nat_tests, moves, only.files k, only.kinds k file, split_usage (λ id. id == file) w.versions w.drafts, split_usage (λ id. id == file) v.versions v.drafts, only.versions, only.drafts)

-- what counts at its own kind alone
pub only_at_is : (k kind : Kind) (usage : Usage) → only_at kind usage k ≡ cond (is_kind k kind) usage nothing
only_at_is k kind usage = grind (arith, nat_tests)

-- ---- a new file

-- a file with a new number that is added at the end is found by its policy, and each other as before
kind_added : (given versions : ℕ) (files : List FileRow) (row : FileRow) (k : Kind) (id : ℕ) → AllByRecursion (IsFile given versions) files → given < row.id → is_file_of (files ++ row ∷ []) k id ≡ cond (id == row.id) (is_kind k (kind_of row.policy)) (is_file_of files k id)
kind_added given versions [] row k id all new = grind (arith, nat_tests)
kind_added given versions (x ∷ xs) row k id all new = grind (arith, nat_tests, kind_added given versions xs row k id all.1 new)

-- a new file with its first version, which is empty
pub created_usage : (w : World) (directory : ℕ) (name : List ℕ) (policy : Policy) → HasParts w → (k : Kind) → usage_of (created w directory name (w.made.files + 1) policy) k ≡ plus (usage_of w k) (cond (is_kind k (kind_of policy)) (record { files = 1; versions = 1; bytes = 0; blocks = 0 }) nothing)
unfolding usage_of
created_usage w directory name policy keeps k =
    let id = w.made.files + 1 in
    let v = created w directory name id policy in
    let kinds = λ (other : ℕ). kind_added w.made.files w.made.versions w.files (new_file id policy) k other (keeps.holds Files).each (omega arith) in
    let versions = filter-none (λ (r : VersionRow). r.file == id) w.versions (all-weaker (λ r. r.file < id) (λ r. (r.file == id) ≡ false) w.versions (λ r before. grind (arith, nat_tests)) (versions_before w keeps)) in
    let drafts = filter-none (λ (r : DraftRow). r.file == id) w.drafts (all-weaker (IsDraft w.files w.now) (λ r. (r.file == id) ≡ false) w.drafts (λ r h. grind (arith, nat_tests, h.there, next_of-given w.made.files w.made.versions w.files r.file (keeps.holds Files).each)) (keeps.holds Drafts).each) in
    let moves = file_moves id (is_file_of w.files k) (is_file_of v.files k) (λ other apart. grind (arith, nat_tests, kinds other)) w.versions v.versions w.drafts w.drafts (grind (arith, nat_tests, filter-append, append-nil)) refl in
    grind (arith, nat_tests, moves, kinds id, versions, drafts, filter-append, length-append)

-- ---- which changes are of one file

-- a change of nothing that usage reads
pub usage_same : (w v : World) → v.files ≡ w.files → v.versions ≡ w.versions → v.drafts ≡ w.drafts → (k : Kind) → usage_of v k ≡ usage_of w k
unfolding usage_of
usage_same w v files versions drafts k = rw (files, versions, drafts) refl

pub changes_removed : (file number : ℕ) (w : World) → ChangesOnly file w (record w { versions = remove_first (is_version file number) w.versions })
changes_removed file number w = record { kinds = λ k id. refl; files = λ k. refl; versions = versions-removed file number w.versions; drafts = refl }

-- ---- bounds

-- the versions, bytes and blocks of a kind are within the whole
pub within_versions : (w : World) (k : Kind) → (usage_of w k).versions ≤ (whole w).versions
unfolding usage_of
within_versions w k = grind (arith, split_usage (is_file_of w.files k) w.versions w.drafts)

pub within_bytes : (w : World) (k : Kind) → (usage_of w k).bytes ≤ (whole w).bytes
unfolding usage_of
within_bytes w k = grind (arith, split_usage (is_file_of w.files k) w.versions w.drafts)

pub within_blocks : (w : World) (k : Kind) → (usage_of w k).blocks ≤ (whole w).blocks
unfolding usage_of
within_blocks w k = grind (arith, split_usage (is_file_of w.files k) w.versions w.drafts)

pub within_files : (w : World) (k : Kind) → (usage_of w k).files ≤ length w.files
unfolding usage_of
within_files w k = omega (arith, length-split (is_of k) w.files)

bytes_short : (files : List FileRow) (now : ℕ) (rows : List VersionRow) → AllByRecursion (IsVersion files now) rows → bytes_in rows ≤ longest_content * length rows
bytes_short files now [] all = omega arith
bytes_short files now (x ∷ xs) all = let here = all.0.content.short in omega (arith, here, bytes_in-cons x xs, bytes_short files now xs all.1)

pub whole_files : (w : World) → HasParts w → AreBounds w.limits → length w.files ≤ 100000
whole_files w keeps bounds = let most = bounds.files in let rows = (keeps.holds Counted).file_rows in let made = (keeps.holds Counted).files_made in omega arith

pub whole_versions : (w : World) → HasParts w → AreBounds w.limits → (whole w).versions ≤ 1000000
whole_versions w keeps bounds = let most = bounds.versions in let rows = (keeps.holds Counted).version_rows in let made = (keeps.holds Counted).versions_made in omega arith

pub whole_bytes : (w : World) → HasParts w → AreBounds w.limits → (whole w).bytes ≤ 1048576000000
whole_bytes w keeps bounds = omega (arith, bytes_short w.files w.now w.versions (keeps.holds Versions).each, whole_versions w keeps bounds)

-- ---- the blocks are few

different_few : (xs : List Place) → different is_place xs ≤ length xs
different_few [] = omega arith
different_few (x ∷ xs) = grind (arith, nat_tests, different_few xs)

length-places_from : (file slot : ℕ) (cells : List Cell) → length (places_from file slot cells) ≡ length cells
length-places_from file slot [] = refl
length-places_from file slot (cell ∷ cells) = omega (arith, length-places_from file (slot + 1) cells)

rows_few : {R : Type 0} (file_of : R → ℕ) (cells_of : R → List Cell) (rows : List R) → AllByRecursion (λ row. IsContent (cells_of row)) rows → length (flat_map (λ row. places_from (file_of row) 0 (cells_of row)) rows) ≤ longest_content * length rows
rows_few file_of cells_of [] all = omega arith
rows_few file_of cells_of (x ∷ xs) all = grind (arith, nat_tests, flat_map-cons, length-append, length-places_from, slots_few, rows_few file_of cells_of xs all.1)

pub whole_blocks : (w : World) → HasParts w → AreBounds w.limits → (whole w).blocks < 2 ^ 64
whole_blocks w keeps bounds =
    let versions = rows_few (λ (row : VersionRow). row.file) (λ row. row.cells) w.versions (all-weaker (IsVersion w.files w.now) (λ row. IsContent row.cells) w.versions (λ row h. h.content) (keeps.holds Versions).each) in
    let drafts = rows_few (λ (row : DraftRow). row.file) (λ row. row.cells) w.drafts (all-weaker (IsDraft w.files w.now) (λ row. IsContent row.cells) w.drafts (λ row h. h.content) (keeps.holds Drafts).each) in
    let all = length-append (flat_map (λ (row : VersionRow). places_from row.file 0 row.cells) w.versions) (flat_map (λ (row : DraftRow). places_from row.file 0 row.cells) w.drafts) in
    omega (arith, different_few (places w.versions w.drafts), all, versions, drafts, bounds.versions, keeps.holds Counted)

-- the sums of a well-formed world
pub usages_fit : (w : World) → HasParts w → AreBounds w.limits → AllByRecursion Fits (usages w)
usages_fit w keeps bounds = (fits kinds.One, (fits kinds.All, (fits kinds.Safe, (fits kinds.Landmarks, tt)))) where
  fits : (k : Kind) → Fits (usage_of w k)
  fits k = grind (arith, nat_tests, within_files, whole_files, within_versions, whole_versions, within_bytes, whole_bytes, within_blocks, whole_blocks)
