-- The maps of files and drafts as one stock, after a change of one file or one draft, and what they show through another store.
use Rattle.ele_files.proofs.Words.{AllByRecursion, AllSessions, Bool, Draft, File, Keeps, List, LivesIn, LogRow, SameStock, Some, Store, Tagged, [], all_found, all-left, all-right, all-split, arith, draft_stock, ended_rows, file_stock, find, flat_map, flat_map-all, insert_before, is_draft, is_id, map, map-all, nat_tests, refl, remove_first, row_stock, stock_of, sum_by, sum_by-append, sum_by-around, sum_by_cons, sum_by-flat_map, sum_by-insert_before, sum_by-map, sum_by-remove_first, sum_by-update_first, sum_by-update_same, sum_by_push, update_first, ℕ, ◌++◌, ◌+◌, ◌∷◌, ◌≡◌, Held, ShowsSame, draft_in, held_in, row_in, rows_in, Moves, Stays, shown, ◌≤◌}

-- a file with the rows and the next number of g
abbrev pub over : File → File → File
over g f = record f { next = g.next; log = g.log }

pub total : (k : Tagged → ℕ) (files : List File) (drafts : List Draft) → sum_by k (stock_of files drafts) ≡ sum_by (λ f. sum_by k (file_stock f)) files + sum_by (λ d. k (draft_stock d)) drafts
total k files drafts = omega (arith, sum_by-append k (flat_map file_stock files) (map draft_stock drafts), sum_by-flat_map k file_stock files, sum_by-map k draft_stock drafts)

module _ (files : List File) (drafts : List Draft) where
  module _ (p : Draft → Bool) where
    pub draft_apart : (d : Draft) → find p drafts ≡ Some d → SameStock (stock_of files drafts) (draft_stock d ∷ stock_of files (remove_first p drafts))
    draft_apart d found = record { sums = λ k. omega (arith, total k files drafts, total k files (remove_first p drafts), sum_by_cons k (draft_stock d) (stock_of files (remove_first p drafts)), sum_by-remove_first (λ x. k (draft_stock x)) p drafts d found) }

    pub draft_changed : (g : Draft → Draft) (d : Draft) → find p drafts ≡ Some d → SameStock (stock_of files (update_first p g drafts)) (draft_stock (g d) ∷ stock_of files (remove_first p drafts))
    draft_changed g d found = record { sums = λ k. omega (arith, total k files (update_first p g drafts), total k files (remove_first p drafts), sum_by_cons k (draft_stock (g d)) (stock_of files (remove_first p drafts)), sum_by-remove_first (λ x. k (draft_stock x)) p drafts d found, sum_by-update_first (λ x. k (draft_stock x)) p g drafts d found) }

    pub draft_begun : (d : Draft) → SameStock (stock_of files (insert_before p d drafts)) (draft_stock d ∷ stock_of files drafts)
    draft_begun d = record { sums = λ k. omega (arith, total k files (insert_before p d drafts), total k files drafts, sum_by_cons k (draft_stock d) (stock_of files drafts), sum_by-insert_before (λ x. k (draft_stock x)) p d drafts) }

  -- a file is added without rows
  pub file_added : (f : File) → f.log.rows ≡ [] → SameStock (stock_of files drafts) (stock_of (files ++ f ∷ []) drafts)
  file_added f none = grind (arith, nat_tests, total, sum_by_push)

  -- and so it goes
  pub file_dropped : (p : File → Bool) (f : File) → find p files ≡ Some f → f.log.rows ≡ [] → SameStock (stock_of files drafts) (stock_of (remove_first p files) drafts)
  file_dropped p f found none = grind (arith, nat_tests, total, sum_by-remove_first)

  -- one file has other rows
  module _ (id : ℕ) (f g : File) (found : find (is_id id) files ≡ Some f) where
    pub exchanged : (k : Tagged → ℕ) → sum_by k (stock_of (update_first (is_id id) (over g) files) drafts) + sum_by (λ row. k (row_stock f.id row)) f.log.rows ≡ sum_by k (stock_of files drafts) + sum_by (λ row. k (row_stock f.id row)) g.log.rows
    exchanged k = grind (arith, nat_tests, total, sum_by-update_first, sum_by-map)

    pub row_apart : (q : LogRow → Bool) (row : LogRow) → find q f.log.rows ≡ Some row → g.log.rows ≡ remove_first q f.log.rows → SameStock (stock_of files drafts) (row_stock f.id row ∷ stock_of (update_first (is_id id) (over g) files) drafts)
    row_apart q row held rows = grind (arith, nat_tests, exchanged, sum_by-remove_first, sum_by_cons)

    pub rows_stay : g.log.rows ≡ f.log.rows → SameStock (stock_of files drafts) (stock_of (update_first (is_id id) (over g) files) drafts)
    rows_stay rows = grind (arith, nat_tests, exchanged)

    pub rows_ended : (now : ℕ) → g.log.rows ≡ ended_rows f now → SameStock (stock_of files drafts) (stock_of (update_first (is_id id) (over g) files) drafts)
    rows_ended now rows = grind (arith, nat_tests, exchanged, sum_by-update_same)

    pub row_added : (now : ℕ) (new : LogRow) → g.log.rows ≡ ended_rows f now ++ new ∷ [] → SameStock (stock_of (update_first (is_id id) (over g) files) drafts) (row_stock f.id new ∷ stock_of files drafts)
    row_added now new rows = grind (arith, nat_tests, exchanged, sum_by_push, sum_by-update_same, sum_by_cons)

-- each map lives in the store
abbrev pub LogLives : Store → File → Type 0
LogLives s f = AllByRecursion (λ (row : LogRow). LivesIn s row.cells) f.log.rows

module _ (s : Store) (files : List File) (a : AllSessions) (kept : Keeps s files a) where
  each_lives : AllByRecursion (λ t. LivesIn s t.layout) (stock_of files a.drafts)
  each_lives = all-split (λ t. LivesIn s t.layout) (stock_of files a.drafts) (λ before t behind is. kept.laws.lives s t (before ++ behind) (kept.laws.same s (stock_of files a.drafts) (t ∷ before ++ behind) (record { sums = λ k. rw is (omega (arith, sum_by-around k before t behind, sum_by_cons k t (before ++ behind))) }) kept.stocked))

  logs : (fs : List File) → AllByRecursion (λ f. AllByRecursion (λ t. LivesIn s t.layout) (file_stock f)) fs → AllByRecursion (LogLives s) fs
  logs [] all = tt
  logs (f ∷ fs) all = (map-all (row_stock f.id) (λ t. LivesIn s t.layout) f.log.rows all.0, logs fs all.1)

  pub logs_live : AllByRecursion (LogLives s) files
  logs_live = logs files (flat_map-all file_stock (λ t. LivesIn s t.layout) files (all-left (λ t. LivesIn s t.layout) (flat_map file_stock files) (map draft_stock a.drafts) each_lives))

  pub draft_lives : (file : ℕ) (d : Draft) → find (is_draft file) a.drafts ≡ Some d → LivesIn s d.layout
  draft_lives file d found = all_found (is_draft file) (λ d. LivesIn s d.layout) a.drafts d found (map-all draft_stock (λ t. LivesIn s t.layout) a.drafts (all-right (λ t. LivesIn s t.layout) (flat_map file_stock files) (map draft_stock a.drafts) each_lives))

  -- a found row of a found file
  pub row_lives : (id : ℕ) (q : LogRow → Bool) (f : File) (row : LogRow) → find (is_id id) files ≡ Some f → find q f.log.rows ≡ Some row → LivesIn s row.cells
  row_lives id q f row there held = all_found q (λ (row : LogRow). LivesIn s row.cells) f.log.rows row held (all_found (is_id id) (LogLives s) files f there logs_live)

-- the fields keep their laws, and show these rows
pub record IsSeen (s : Store) (files : List File) (ss : AllSessions) (h : Held) : Type 0 where
  pub keeps : Keeps s files ss
  pub shows : held_in s files ss ≡ h

module _ (s t : Store) where
  rows_same : (file : ℕ) (rows : List LogRow) → AllByRecursion (ShowsSame s t) (map (row_stock file) rows) → map (row_in t file) rows ≡ map (row_in s file) rows
  rows_same file [] all = refl
  rows_same file (r ∷ rows) all = rw (all.0.same, rows_same file rows all.1) refl

  pub versions_same : (files : List File) → AllByRecursion (ShowsSame s t) (flat_map file_stock files) → flat_map (rows_in t) files ≡ flat_map (rows_in s) files
  versions_same [] all = refl
  versions_same (f ∷ files) all = rw (rows_same f.id f.log.rows (all-left (ShowsSame s t) (file_stock f) (flat_map file_stock files) all), versions_same files (all-right (ShowsSame s t) (file_stock f) (flat_map file_stock files) all)) refl

  pub drafts_same : (drafts : List Draft) → AllByRecursion (ShowsSame s t) (map draft_stock drafts) → map (draft_in t) drafts ≡ map (draft_in s) drafts
  drafts_same [] all = refl
  drafts_same (d ∷ drafts) all = rw (all.0.same, drafts_same drafts all.1) refl

  pub held_stays : (files : List File) (a : AllSessions) → AllByRecursion (ShowsSame s t) (stock_of files a.drafts) → held_in t files a ≡ held_in s files a
  held_stays files a all = rw (versions_same files (all-left (ShowsSame s t) (flat_map file_stock files) (map draft_stock a.drafts) all), drafts_same a.drafts (all-right (ShowsSame s t) (flat_map file_stock files) (map draft_stock a.drafts) all)) refl

module _ (s t : Store) (files : List File) (a : AllSessions) (kept : Keeps s files a) (id : ℕ) (f : File) (found : find (is_id id) files ≡ Some f) (q : LogRow → Bool) (row : LogRow) (held : find q f.log.rows ≡ Some row) where
  -- the stock has it too, for whatever file's later version
  pub row_copied : Moves s t [] (row.cells ∷ []) → (below : ℕ) → row.number + 1 ≤ below → (us : List Tagged) → SameStock us (record (row_stock f.id row) { below = below } ∷ stock_of files a.drafts) → Stays s t (stock_of files a.drafts) us
  row_copied moves below later us is =
      let g : File = record f { log = record f.log { rows = remove_first q f.log.rows } } in
      kept.laws.copied s t (stock_of files a.drafts) (row_stock f.id row) (stock_of (update_first (is_id id) (over g) files) a.drafts) below us kept.stocked (row_apart files a.drafts id f g found q row held refl) later moves is

  -- and the version shows what it showed
  pub row_same : AllByRecursion (ShowsSame s t) (stock_of files a.drafts) → shown t row.cells ≡ shown s row.cells
  row_same all =
      let mine = flat_map-all file_stock (ShowsSame s t) files (all-left (ShowsSame s t) (flat_map file_stock files) (map draft_stock a.drafts) all) in
      let rows = map-all (row_stock f.id) (ShowsSame s t) f.log.rows (all_found (is_id id) (λ x. AllByRecursion (ShowsSame s t) (file_stock x)) files f found mine) in
      (all_found q (λ r. ShowsSame s t (row_stock f.id r)) f.log.rows row held rows).same
