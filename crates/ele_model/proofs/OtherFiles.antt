-- The rows of other files stay when one file's rows change.
use Rattle.ele_model.proofs.Basics.{◌≡◌, ℕ, not, List, [], ◌∷◌, length, refl, arith, eqb, filter, nat_tests, update_first, remove_first, insert_before, found_passes, filter-update_first, filter-remove_first, filter-insert_before}
use Rattle.ele_model.proofs.Words.{Kind, DraftRow, FileRow, VersionRow, numbered_on, ended_at, is_of, is_file_of, World, is_draft, is_file, is_version, is_version_after}
use Rattle.ele_model.proofs.Opened.{with_draft}
use Rattle.ele_model.proofs.Files.{policies-numbered}

-- ---- drafts

abbrev pub other_drafts : ℕ → List DraftRow → List DraftRow
other_drafts file rows = filter (λ row. not (eqb row.file file)) rows

pub drafts-updated : (file : ℕ) (f : DraftRow → DraftRow) (rows : List DraftRow) → ((row : DraftRow) → (f row).file ≡ row.file) → other_drafts file (update_first (is_draft file) f rows) ≡ other_drafts file rows
drafts-updated file f rows keeps = grind (arith, nat_tests, filter-update_first)

pub drafts-removed : (file : ℕ) (rows : List DraftRow) → other_drafts file (remove_first (is_draft file) rows) ≡ other_drafts file rows
drafts-removed file rows = grind (arith, nat_tests, filter-remove_first, found_passes)

pub drafts-opened : (w : World) (file : ℕ) → other_drafts file (with_draft w file) ≡ other_drafts file w.drafts
drafts-opened w file = grind (arith, nat_tests, filter-insert_before)

-- ---- versions

abbrev pub other_versions : ℕ → List VersionRow → List VersionRow
other_versions file rows = filter (λ row. not (eqb row.file file)) rows

pub versions-removed : (file number : ℕ) (rows : List VersionRow) → other_versions file (remove_first (is_version file number) rows) ≡ other_versions file rows
versions-removed file number rows = grind (arith, nat_tests, filter-remove_first, found_passes)

pub versions-finished : (file next number now : ℕ) (row : VersionRow) (rows : List VersionRow) → row.file ≡ file → other_versions file (insert_before (is_version_after file next) row (update_first (is_version file number) (ended_at now) rows)) ≡ other_versions file rows
versions-finished file next number now row rows own = grind (arith, nat_tests, filter-insert_before, filter-update_first)

-- ---- files

pub kinds-numbered : (files : List FileRow) (file : ℕ) (k : Kind) (id : ℕ) → is_file_of (update_first (is_file file) numbered_on files) k id ≡ is_file_of files k id
kinds-numbered files file k id = grind (arith, nat_tests, policies-numbered)

pub files-numbered : (files : List FileRow) (file : ℕ) (k : Kind) → length (filter (is_of k) (update_first (is_file file) numbered_on files)) ≡ length (filter (is_of k) files)
files-numbered [] file k = refl
files-numbered (x ∷ xs) file k = grind (arith, nat_tests, files-numbered xs file k)
