-- The book of usage, as the files change.
use Rattle.ele_state.proofs.Words.{IsFew, IsOwedBy, of_file, TruncateDraft, WriteDraft, changed_at, nat_tests, ◌≡◌, ℕ, ◌+◌, ◌-◌, ◌<◌, ◌≤◌, ◌^◌, Bool, true, cond, List, ◌∷◌, length, Some, refl, ◌∙◌, arith, sum_by, world_of, IsSound, IsTracked, held_world, blocks_of, only_blocks, IsOwed, IsBooked, Rows, content_of, Held, rows_after, rows_of, opened_by, sum_by-map, Kind, Policy, kind_of, is_kind, Usage, Book, sums_of, only_at, nothing, plus, Fits, usage_of, is_file_of, bytes_in, ChangesOnly, World, VersionRow, MakeFile, created, made_is, policy_of, usage_changes, usage_same, within_files, within_versions, within_bytes, within_blocks, whole_files, whole_versions, whole_bytes, created_usage, only_at_is, []}
use Rattle.ele_model.proofs.OtherFiles.{drafts-opened, drafts-updated, other_drafts}

pub booked : (rows : Rows) → IsTracked rows → (k : Kind) → sums_of rows.book k ≡ usage_of (world_of rows) k
booked rows tracked k = tracked.book k ∙ usage_same (world_of rows) (held_world rows.files) refl refl refl k

pub few : (rows : Rows) → IsSound rows → (k : Kind) → IsFew (sums_of rows.book k)
few rows sound k =
    let w = world_of rows in
    let formed = sound.formed in
    let bounds = sound.tracked.bounds in
    rw (booked rows sound.tracked k) (record {
      files = omega (arith, within_files w k, whole_files w formed bounds);
      versions = omega (arith, within_versions w k, whole_versions w formed bounds);
      bytes = omega (arith, within_bytes w k, whole_bytes w formed bounds);
    })

pub few_blocks : (rows : Rows) → IsBooked rows.files rows.book → (k : Kind) → (sums_of rows.book k).blocks ≤ blocks_of rows.files
few_blocks rows is k = rw (is k) (within_blocks (held_world rows.files) k)

pub fits : (rows : Rows) → IsSound rows → (k : Kind) → Fits (record (sums_of rows.book k) { blocks = 0 })
fits rows sound k = grind (arith, nat_tests, few rows sound k)

-- ---- the bytes of versions are a sum

abbrev pub size : VersionRow → ℕ
size row = length (content_of row.cells)

pub bytes_are : (rows : List VersionRow) → bytes_in rows ≡ sum_by size rows
bytes_are rows = sum_by-map (λ (n : ℕ). n) size rows

-- ---- the blocks that are owed after a change of one file

abbrev pub some_versions : ℕ → ℕ → Usage
some_versions versions bytes = record { files = 0; versions = versions; bytes = bytes; blocks = 0 }

pub plus-cancel : (a b x : Usage) → plus a x ≡ plus b x → a ≡ b
plus-cancel a b x e = grind (arith, nat_tests)

-- if so many versions and bytes were added and removed, and the book has them
pub owed : (file : ℕ) (h now : Held) (book : Book) (came_versions came_bytes gone_versions gone_bytes : ℕ) → ChangesOnly file (held_world h) (held_world now)
    → length now.versions + gone_versions ≡ length h.versions + came_versions
    → bytes_in now.versions + gone_bytes ≡ bytes_in h.versions + came_bytes
    → ((k : Kind) → plus (sums_of book k) (cond (is_file_of now.files k file) (some_versions gone_versions gone_bytes) nothing) ≡ plus (usage_of (held_world h) k) (cond (is_file_of now.files k file) (some_versions came_versions came_bytes) nothing))
    → IsOwed now book file (blocks_of h)
owed file h now book cv cb gv gb changes versions bytes known k = grind (arith, nat_tests, changes.kinds k file, usage_changes file (held_world h) (held_world now) changes k, known k)

-- a change of the file's draft alone
changes_drafts : (file : ℕ) (w v : World) → v.files ≡ w.files → v.versions ≡ w.versions → other_drafts file v.drafts ≡ other_drafts file w.drafts → ChangesOnly file w v
changes_drafts file w v files versions drafts = grind (arith, nat_tests)

-- if files, versions and the drafts of other files are the same
pub drafts_owed : (rows : Rows) (file : ℕ) (now : Held) (before : ℕ) → IsTracked rows → before ≡ blocks_of rows.files → now.files ≡ rows.files.files → now.versions ≡ rows.files.versions → other_drafts file now.drafts ≡ other_drafts file rows.files.drafts → IsOwed now rows.book file before
drafts_owed rows file now before tracked is files versions drafts =
    rw is (owed file rows.files now rows.book 0 0 0 0 (changes_drafts file (held_world rows.files) (held_world now) files versions drafts) (rw versions refl) (rw versions refl) (λ k. rw (tracked.book k) refl))

-- a handle is opened, whether the file has a draft or not
pub opened_owed : (rows : Rows) (file : ℕ) (now : Held) (before : ℕ) → IsTracked rows → before ≡ blocks_of rows.files → now ≡ opened_by rows.files file rows.moment → IsOwed now rows.book file before
opened_owed rows file now before tracked is after = grind (arith, nat_tests, drafts_owed rows file now before tracked is, drafts-opened (world_of rows) file)

-- bytes are written
pub written_owed : (rows : Rows) (file offset : ℕ) (bytes : List ℕ) (now : Held) (before : ℕ) → IsTracked rows → before ≡ blocks_of rows.files → now ≡ changed_at rows.files 0 (WriteDraft file offset bytes ∷ []) → IsOwed now rows.book file before
written_owed rows file offset bytes now before tracked is after = grind (arith, nat_tests, drafts_owed rows file now before tracked is, drafts-updated)

-- a draft gets another length
pub fitted_owed : (rows : Rows) (file size : ℕ) (now : Held) (before : ℕ) → IsTracked rows → before ≡ blocks_of rows.files → now ≡ changed_at rows.files 0 (TruncateDraft file size ∷ []) → IsOwed now rows.book file before
fitted_owed rows file size now before tracked is after = grind (arith, nat_tests, drafts_owed rows file now before tracked is, drafts-updated)

-- ---- a file is made

pub made_fits : (rows : Rows) (k : Kind) (before : ℕ) → IsSound rows → before ≡ blocks_of rows.files → before < 2 ^ 64 → Fits (plus (sums_of rows.book k) (record { files = 1; versions = 1; bytes = 0; blocks = 0 }))
made_fits rows k before sound is bound = grind (arith, nat_tests, few rows sound k, few_blocks rows sound.tracked.book k)

-- a new file, its name aside, is all that its kind has more
pub made_book : (rows : Rows) (directory : ℕ) (name : List ℕ) (policy : Policy) (now : Held) (book : Book) → IsSound rows → now ≡ rows_after (world_of rows) rows.files (MakeFile directory name (rows.made.files + 1) policy ∷ []) → ((k : Kind) → sums_of book k ≡ plus (sums_of rows.book k) (only_at (kind_of policy) (record { files = 1; versions = 1; bytes = 0; blocks = 0 }) k)) → IsBooked now book
made_book rows directory name policy now book sound after added k =
    let w = world_of rows in
    let made = created w directory name (rows.made.files + 1) policy in
    grind (arith, nat_tests, added k, only_at_is, booked rows sound.tracked k, created_usage w directory name policy sound.formed k, usage_same (held_world (rows_of made)) made refl refl refl k, made_is w directory name policy sound.formed)

-- ---- blocks that are shifted

pub same_kind : (k : Kind) → is_kind k k ≡ true
same_kind x0 = grind (arith, nat_tests)

-- what is only at a kind is of each file of that kind
pub of_kind : (h : Held) (file : ℕ) (policy : Policy) (u : Usage) (k : Kind) → policy_of h.files file ≡ Some policy → only_at (kind_of policy) u k ≡ of_file h file u k
of_kind h file policy u k of = grind (arith, nat_tests, only_at_is)

pub owed_by : (h : Held) (book : Book) (file before : ℕ) (policy : Policy) → policy_of h.files file ≡ Some policy → IsOwed h book file before → IsOwedBy h book (kind_of policy) before
owed_by h book file before policy of owed k = rw (of_kind h file policy (only_blocks before) k of, of_kind h file policy (only_blocks (blocks_of h)) k of) (owed k)

pub shift_fits : (files : Held) (book : Book) (kind : Kind) (before : ℕ) → IsOwedBy files book kind before → Fits (record (sums_of book kind) { blocks = 0 }) → before < 2 ^ 64 → blocks_of files < 2 ^ 64 → Fits (plus (sums_of book kind) (only_blocks (blocks_of files - before)))
shift_fits files book kind before owed room few_before few_now = grind (arith, nat_tests, same_kind, within_blocks, owed kind)

pub shift_there : (files : Held) (book : Book) (kind : Kind) (before : ℕ) → IsOwedBy files book kind before → before - blocks_of files ≤ (sums_of book kind).blocks
shift_there files book kind before owed = grind (arith, nat_tests, same_kind, owed kind)

pub and_nothing : (u : Usage) → plus u nothing ≡ u
and_nothing u = grind (arith, nat_tests)

pub and_none : (u : Usage) (d : Bool) → plus u (cond d nothing nothing) ≡ u
and_none u x1 = grind (arith, nat_tests, and_nothing u)
