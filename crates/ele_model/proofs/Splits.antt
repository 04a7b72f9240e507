-- What rows use: those of some files and those of the others, and when the rows of one file change.
use Rattle.ele_model.proofs.Basics.{◌≡◌, ◌==◌, ℕ, ◌+◌, Bool, false, not, cond, List, [], ◌∷◌, length, map, refl, arith, filter, filter-swap, flat_map, nat_tests, flat_map-cons, filter-append, sum_by-cons, list_any-filter, length-split}
use Rattle.ele_model.proofs.Words.{Usage, plus, nothing, Cell, content_of, Place, is_place, different, VersionRow, DraftRow, places_from, places, bytes_in}

-- ---- sums split

pub bytes_in-cons : (row : VersionRow) (rows : List VersionRow) → bytes_in (row ∷ rows) ≡ length (content_of row.cells) + bytes_in rows
bytes_in-cons row rows = sum_by-cons (λ (n : ℕ). n) (length (content_of row.cells)) (map (λ (r : VersionRow). length (content_of r.cells)) rows)

split_bytes : (t : VersionRow → Bool) (rows : List VersionRow) → bytes_in rows ≡ bytes_in (filter t rows) + bytes_in (filter (λ r. not (t r)) rows)
split_bytes t [] = refl
split_bytes t (row ∷ rows) = grind (arith, nat_tests, bytes_in-cons, split_bytes t rows)

-- places that are the same pass alike
split_different : (t : ℕ → Bool) (ps : List Place) → different is_place ps ≡ different is_place (filter (λ p. t p.file) ps) + different is_place (filter (λ p. not (t p.file)) ps)
split_different t [] = omega arith
split_different t (place ∷ ps) = grind (arith, nat_tests, list_any-filter, split_different t ps)

-- the places of the rows that pass are the places that pass
filter_places : (t : ℕ → Bool) (file slot : ℕ) (cells : List Cell) → filter (λ p. t p.file) (places_from file slot cells) ≡ cond (t file) (places_from file slot cells) []
filter_places t file slot [] = grind (arith)
filter_places t file slot (cell ∷ cells) = grind (arith, nat_tests, filter_places t file (slot + 1) cells)

filter_rows : {R : Type 0} (file_of : R → ℕ) (cells_of : R → List Cell) (t : ℕ → Bool) (rows : List R) → filter (λ p. t p.file) (flat_map (λ r. places_from (file_of r) 0 (cells_of r)) rows) ≡ flat_map (λ r. places_from (file_of r) 0 (cells_of r)) (filter (λ r. t (file_of r)) rows)
filter_rows file_of cells_of t [] = refl
filter_rows file_of cells_of t (row ∷ rows) = grind (arith, nat_tests, flat_map-cons, filter-append, filter_places, filter_rows file_of cells_of t rows)

filter_all : (t : ℕ → Bool) (versions : List VersionRow) (drafts : List DraftRow) → filter (λ p. t p.file) (places versions drafts) ≡ places (filter (λ r. t r.file) versions) (filter (λ r. t r.file) drafts)
filter_all t versions drafts = grind (arith, nat_tests, filter-append, filter_rows (λ (r : VersionRow). r.file) (λ r. r.cells) t versions, filter_rows (λ (r : DraftRow). r.file) (λ r. r.cells) t drafts)

-- ---- usage splits by files

abbrev pub rows_usage : List VersionRow → List DraftRow → Usage
rows_usage versions drafts = record { files = 0; versions = length versions; bytes = bytes_in versions; blocks = different is_place (places versions drafts) }

-- of the files that pass, and of one file
abbrev pub passing : (ℕ → Bool) → List VersionRow → List DraftRow → Usage
passing t versions drafts = rows_usage (filter (λ r. t r.file) versions) (filter (λ r. t r.file) drafts)

abbrev pub own_usage : ℕ → List VersionRow → List DraftRow → Usage
own_usage file = passing (λ id. id == file)

-- the rows of the files that pass and the others are the whole
pub split_usage : (t : ℕ → Bool) (versions : List VersionRow) (drafts : List DraftRow) → rows_usage versions drafts ≡ plus (passing t versions drafts) (passing (λ id. not (t id)) versions drafts)
split_usage t versions drafts = grind (arith, nat_tests, length-split (λ (r : VersionRow). t r.file) versions, split_bytes (λ r. t r.file) versions, filter_all t versions drafts, filter_all (λ id. not (t id)) versions drafts, split_different t (places versions drafts))

-- ---- a change of one file

module _ {R : Type 0} (file_of : R → ℕ) (file : ℕ) (t : ℕ → Bool) where
  -- of the rows that pass, those of a file that passes are its rows, and of another there are none
  own_passing : (xs : List R) → filter (λ x. file_of x == file) (filter (λ x. t (file_of x)) xs) ≡ cond (t file) (filter (λ x. file_of x == file) xs) []
  own_passing [] = grind (arith)
  own_passing (x ∷ xs) = grind (arith, nat_tests, own_passing xs)

  -- the same rows of the other files pass if two tests differ only at the file
  module _ (t' : ℕ → Bool) (same : (id : ℕ) → (id == file) ≡ false → t' id ≡ t id) where
    others_same : (xs : List R) → filter (λ x. t' (file_of x)) (filter (λ x. not (file_of x == file)) xs) ≡ filter (λ x. t (file_of x)) (filter (λ x. not (file_of x == file)) xs)
    others_same [] = refl
    others_same (x ∷ xs) = grind (arith, nat_tests, same (file_of x), others_same xs)

    others_pass : (xs ys : List R) → filter (λ x. not (file_of x == file)) ys ≡ filter (λ x. not (file_of x == file)) xs → filter (λ x. not (file_of x == file)) (filter (λ x. t' (file_of x)) ys) ≡ filter (λ x. not (file_of x == file)) (filter (λ x. t (file_of x)) xs)
    others_pass xs ys e = rw (filter-swap (λ x. not (file_of x == file)) (λ x. t' (file_of x)) ys, filter-swap (λ x. not (file_of x == file)) (λ x. t (file_of x)) xs, e) (others_same xs)

-- what passes is the file's own, if the file passes, and that of the others
pub passing_split : (file : ℕ) (t : ℕ → Bool) (versions : List VersionRow) (drafts : List DraftRow) → passing t versions drafts ≡ plus (cond (t file) (own_usage file versions drafts) nothing) (passing (λ id. not (id == file)) (filter (λ r. t r.file) versions) (filter (λ r. t r.file) drafts))
passing_split file t versions drafts = grind (arith, nat_tests, split_usage (λ id. id == file) (filter (λ r. t r.file) versions) (filter (λ r. t r.file) drafts), own_passing (λ (r : VersionRow). r.file) file t versions, own_passing (λ (r : DraftRow). r.file) file t drafts)

-- so if rows and tests differ only at one file, only its own rows are removed and added
pub file_moves : (file : ℕ) (t t' : ℕ → Bool) → ((id : ℕ) → (id == file) ≡ false → t' id ≡ t id) → (versions versions' : List VersionRow) (drafts drafts' : List DraftRow)
    → filter (λ r. not (r.file == file)) versions' ≡ filter (λ r. not (r.file == file)) versions → filter (λ r. not (r.file == file)) drafts' ≡ filter (λ r. not (r.file == file)) drafts
    → plus (passing t' versions' drafts') (cond (t file) (own_usage file versions drafts) nothing) ≡ plus (passing t versions drafts) (cond (t' file) (own_usage file versions' drafts') nothing)
file_moves file t t' same versions versions' drafts drafts' of_versions of_drafts =
    let was = passing_split file t versions drafts in
    let now = rw (others_pass (λ (r : VersionRow). r.file) file t t' same versions versions' of_versions, others_pass (λ (r : DraftRow). r.file) file t t' same drafts drafts' of_drafts) at (passing_split file t' versions' drafts') in
    grind (arith, nat_tests, was, now)
