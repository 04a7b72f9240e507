-- The rows of the files and drafts.
use Rattle.ele_files.proofs.Words.{AllByRecursion, AllLater, Draft, File, IsPast, IsRowPast, List, LogRow, None, Option, Some, Store, VersionRow, all-any, all_found, all-map, all-none, all-weaker, any-map, ap, arith, draft_in, ended_at, ended_by, ended_rows, eqb, false, file_row, find, find-buckets, find-map, find-none, flat_map, flat_map-all, found_passes, is_file, is_id, has_number, is_version, list_any, map, map-all, nat_tests, next_of, option_and_then, option_map, option_map_or, position, refl, row_in, rows_in, sym, true, update_first, update_first-map, ℕ, ◌-◌, ◌<◌, ◌∙◌, ◌≡◌, ◌≢◌}
use Rattle.ele_sessions.specs.Sessions as sessions
use Rattle.ele_model.specs.World.{is_draft}

-- ---- files

module _ (files : List File) (id : ℕ) where
  pub no_file : None ≡ position (is_id id) files → find (is_id id) files ≡ None
  no_file at = find-none (is_id id) files (sym at)

  pub file_row_found : find (is_file id) (map file_row files) ≡ option_map file_row (find (is_id id) files)
  file_row_found = find-map file_row (is_file id) files

  pub next_found : (o : Option File) → find (is_id id) files ≡ o → next_of (map file_row files) id ≡ option_map_or (λ f. f.next) o 0
  next_found o is = rw (file_row_found, is) (grind arith)

pub its_id : (files : List File) (id : ℕ) (f : File) → find (is_id id) files ≡ Some f → f.id ≡ id
its_id files id f found = let e = found_passes (is_id id) files f found in grind (arith, nat_tests)

-- ---- versions

abbrev pub file_of : VersionRow → ℕ
file_of row = row.file

pub tagged : (s : Store) (f : File) → AllByRecursion (λ row. file_of row ≡ f.id) (rows_in s f)
tagged s f = all-map (row_in s f.id) (λ row. row.file ≡ f.id) f.log.rows (all-any (λ row. f.id ≡ f.id) f.log.rows (λ row. refl))

pub own_version : (file number : ℕ) (row : VersionRow) → is_version file number row ≡ true → row.file ≡ file
own_version file number row h = grind (arith, nat_tests)

-- a file's row is its version of that number
pub same_number : (s : Store) (id file number : ℕ) → id ≡ file → (row : LogRow) → is_version file number (row_in s id row) ≡ has_number number row
same_number s id file number is row = let e : eqb id file ≡ true = grind (arith, nat_tests) in rw e refl

-- so the row that ends is that version
pub ended_shown : (s : Store) (f : File) (now file : ℕ) → f.id ≡ file → map (row_in s f.id) (ended_rows f now) ≡ update_first (is_version file (f.next - 1)) (ended_at now) (rows_in s f)
ended_shown s f now file is = sym (update_first-map (row_in s f.id) (is_version file (f.next - 1)) (has_number (f.next - 1)) (same_number s f.id file (f.next - 1) is) (ended_at now) (ended_by now) (λ row. refl) f.log.rows)

-- each row of a file is past if its versions are
pub file_past : (s : Store) (files : List File) (id : ℕ) (f : File) (now : ℕ) → find (is_id id) files ≡ Some f → AllByRecursion (IsPast now) (flat_map (rows_in s) files) → AllByRecursion (IsRowPast now) f.log.rows
file_past s files id f now found past = all-weaker (λ row. IsPast now (row_in s f.id row)) (IsRowPast now) f.log.rows (λ row p. record { closed = p.closed; ended = p.ended }) (map-all (row_in s f.id) (IsPast now) f.log.rows (all_found (is_id id) (λ x. AllByRecursion (IsPast now) (rows_in s x)) files f found (flat_map-all (rows_in s) (IsPast now) files past)))

module _ (s : Store) (file number : ℕ) (files : List File) (rise : AllLater (λ (x y : File). x.id < y.id) files) where
  abbrev version : Option VersionRow
  version = find (is_version file number) (flat_map (rows_in s) files)

  found_in : version ≡ option_and_then (λ f. find (is_version file number) (rows_in s f)) (find (is_id file) files)
  found_in = find-buckets (λ (f : File). f.id) (rows_in s) file_of (tagged s) file (is_version file number) (own_version file number) files rise

  pub version_none : find (is_id file) files ≡ None → version ≡ None
  version_none none = found_in ∙ ap (option_and_then (λ f. find (is_version file number) (rows_in s f))) none

  pub version_of : (f : File) → find (is_id file) files ≡ Some f → version ≡ option_map (row_in s f.id) (find (has_number number) f.log.rows)
  version_of f found = grind (arith, nat_tests, found_in, find-map, found_passes)

-- ---- drafts

pub draft_found : (s : Store) (file : ℕ) (ds : List Draft) → find (is_draft file) (map (draft_in s) ds) ≡ option_map (draft_in s) (find (sessions.is_draft file) ds)
draft_found s file ds = find-map (draft_in s) (is_draft file) ds

pub any_draft : (s : Store) (file : ℕ) (ds : List Draft) → list_any (is_draft file) (map (draft_in s) ds) ≡ list_any (sessions.is_draft file) ds
any_draft s file ds = any-map (draft_in s) (is_draft file) ds

-- no draft is of a file that has none
pub undrafted : (s : Store) (file : ℕ) (ds : List Draft) → list_any (is_draft file) (map (draft_in s) ds) ≡ false → AllByRecursion (λ (d : Draft). d.file ≢ file) ds
undrafted s file ds none = all-weaker (λ (d : Draft). sessions.is_draft file d ≡ false) (λ (d : Draft). d.file ≢ file) ds (λ d no same. grind (arith, nat_tests, no, same)) (all-none (sessions.is_draft file) ds (sym (any_draft s file ds) ∙ none))
