-- A file without held versions and draft.
use Rattle.ele_files.proofs.Words.{AllLater, AllSessions, Bool, Draft, File, IsDraftKept, IsFileKept, IsTrue, Keeps, List, LogRow, None, Some, Store, [], all-both, all-remove_first, all-weaker, ap, arith, false, false≢true, file_row, find, find-buckets, find_position, find-remove_first, flat_map, found_passes, get_or, held_in, is_bare, is_file, is_id, is_some, is_version_of, later-remove_first, list_any, map, nat_tests, not, option_and_then, position, refl, remove, remove_first, remove_first-map, remove_first-position, row_in, rows_in, stock_of, sym, true, without_file, ℕ, ◌<◌, ◌↔◌, ◌∙◌, ◌∷◌, ◌≡◌, ◌≢◌}
use Rattle.ele_files.proofs.Tagged.{any_found}
use Rattle.ele_files.proofs.Stock.{IsSeen, file_dropped}
use Rattle.ele_files.proofs.Rows.{file_of, tagged, undrafted}

-- each row is a version
no_rows : (s : Store) (id : ℕ) (f : File) → is_id id f ≡ true → (rows : List LogRow) → list_any (is_version_of id) (map (row_in s f.id) rows) ≡ false → rows ≡ []
no_rows s id f is [] none = refl
no_rows s id f is (row ∷ rows) none = absurd (false≢true (sym (rw is at none)))

module _ (s : Store) (id : ℕ) (files : List File) (rise : AllLater (λ (x y : File). x.id < y.id) files) where
  found_in : find (is_version_of id) (flat_map (rows_in s) files) ≡ option_and_then (λ f. find (is_version_of id) (rows_in s f)) (find (is_id id) files)
  found_in = find-buckets (λ (f : File). f.id) (rows_in s) file_of (tagged s) id (is_version_of id) (λ row is. grind (arith, nat_tests)) files rise

  -- no file has the number
  pub unheld : find (is_id id) files ≡ None → list_any (is_version_of id) (flat_map (rows_in s) files) ≡ false
  unheld none = sym (any_found (is_version_of id) (flat_map (rows_in s) files)) ∙ ap is_some (found_in ∙ ap (option_and_then (λ f. find (is_version_of id) (rows_in s f))) none)

  -- the file's rows are its versions
  pub held_by : (f : File) → find (is_id id) files ≡ Some f → list_any (is_version_of id) (flat_map (rows_in s) files) ≡ list_any (is_version_of id) (rows_in s f)
  held_by f found = sym (any_found (is_version_of id) (flat_map (rows_in s) files)) ∙ (ap is_some (found_in ∙ ap (option_and_then (λ f. find (is_version_of id) (rows_in s f))) found) ∙ any_found (is_version_of id) (rows_in s f))

  -- whether it has any
  pub any_held : (f : File) → find (is_id id) files ≡ Some f → (none : Bool) → IsTrue none ↔ (f.log.rows ≡ []) → not none ≡ list_any (is_version_of id) (flat_map (rows_in s) files)
  any_held f found none is = grind (arith, nat_tests, held_by f found, no_rows s id f (found_passes (is_id id) files f found) f.log.rows, is.0, is.1)

-- ---- the file's row goes

some_item : {X : Type 0} (p : X → Bool) (xs : List X) (i : ℕ) → Some i ≡ position p xs → X
some_item p [] i at = absurd cc
some_item p (x ∷ xs) i at = x

module _ (s : Store) (files : List File) (a : AllSessions) (kept : Keeps s files a) (id : ℕ) (bare : is_bare (held_in s files a) id ≡ true) where
  abbrev fewer : List File
  fewer = remove_first (is_id id) files

  pub rows_left : map file_row fewer ≡ remove_first (is_file id) (map file_row files)
  rows_left = sym (remove_first-map file_row (is_file id) (is_id id) (λ x. refl) files)

  module _ (f : File) (found : find (is_id id) files ≡ Some f) where
    no_log : f.log.rows ≡ []
    no_log = no_rows s id f (found_passes (is_id id) files f found) f.log.rows (grind (arith, nat_tests, held_by s id files kept.rise f found))

    versions_stay : (fs : List File) → find (is_id id) fs ≡ Some f → flat_map (rows_in s) fs ≡ flat_map (rows_in s) (remove_first (is_id id) fs)
    versions_stay [] h = absurd cc
    versions_stay (x ∷ xs) h = grind (arith, nat_tests, h, no_log, versions_stay xs)

    draft_stays : (d : Draft) → IsDraftKept files d × (d.file ≢ id) → IsDraftKept fewer d
    draft_stays d h = grind (arith, nat_tests, rows_left, find-remove_first, is_file)

    pub drops : IsSeen s fewer a (without_file (held_in s files a) id)
    drops = record {
      keeps =
          let stocked = kept.laws.same s (stock_of files a.drafts) (stock_of fewer a.drafts) (file_dropped files a.drafts (is_id id) f found no_log) kept.stocked in
          let drafts_kept = all-weaker (λ d. IsDraftKept files d × (d.file ≢ id)) (IsDraftKept fewer) a.drafts draft_stays (all-both (IsDraftKept files) (λ d. d.file ≢ id) a.drafts kept.drafts_kept (undrafted s id a.drafts (grind (arith, nat_tests)))) in
          assumption (stocked, drafts_kept, later-remove_first (is_id id) (λ (x y : File). x.id < y.id) files kept.rise, all-remove_first (is_id id) IsFileKept files kept.files_kept);
      shows = rw (← versions_stay files found, rows_left) refl;
    }

  -- the file at its place
  pub drops_at : (i : ℕ) → Some i ≡ position (is_id id) files → IsSeen s (remove files i) a (without_file (held_in s files a) id)
  drops_at i place =
      let x = some_item (is_id id) files i place in
      rw (← remove_first-position (is_id id) files i x (sym place)) (drops (get_or files i x) (find_position (is_id id) files i x (sym place)))
