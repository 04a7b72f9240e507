-- Files with fresh numbers and next numbers.
use Rattle.ele_renewal.proofs.Fresh.{file_below, file_lt, file_same, file_there, files_there, has_file, version_within}
use Rattle.ele_renewal.proofs.Ranks.{all-some, filter-some, filter-within, later-both}
use Rattle.ele_renewal.proofs.Words.{AllByRecursion, AllLater, AreFiles, ArePlaced, AreVersions, FileRow, IsFile, IsVersion, List, VersionRow, World, [], all-both, all-map, all-weaker, arith, false, filter, has_lost_last, is_before, is_file, is_held, later-filter, later-map, later-weaker, length, list_any, map, min, nat_tests, new_file, new_version, next_of, refl, renewed_file, true, ℕ, ◌+◌, ◌-◌, ◌<◌, ◌==◌, ◌∷◌, ◌≡◌, ◌≤◌}

-- ---- the next number of a file, by any numbers that tell files apart

module _ (num : ℕ → ℕ) (new : ℕ → ℕ → ℕ) where
  abbrev renumbered : FileRow → FileRow
  renumbered row = record row { id = num row.id; next = new row.id (row.next - 1) + 1 }

  pub next_by : (id : ℕ) (xs : List FileRow) → AllByRecursion (λ x. (num x.id == num id) ≡ (x.id == id)) xs → list_any (is_file id) xs ≡ true → next_of (map renumbered xs) (num id) ≡ new id (next_of xs id - 1) + 1
  next_by id [] all any = absurd cc
  next_by id (x ∷ xs) all any = grind (arith, nat_tests, next_by id xs)

module _ (w : World) where
  pub next_renewed : (id : ℕ) → has_file w.files id ≡ true → next_of (map (renewed_file w) w.files) (new_file w.files id) ≡ new_version w.versions id (next_of w.files id - 1) + 1
  next_renewed id there = next_by (new_file w.files) (new_version w.versions) id w.files
      (all-weaker (λ x. has_file w.files x.id ≡ true) (λ x. (new_file w.files x.id == new_file w.files id) ≡ (x.id == id)) w.files (λ x here. file_same w.files x.id id here there) (files_there w.files)) there

  pub renewed_there : (id : ℕ) → 0 < next_of w.files id → 0 < next_of (map (renewed_file w) w.files) (new_file w.files id)
  renewed_there id lt = rw (next_renewed id (file_there w.files id lt)) (omega arith)

-- ---- how many numbers are below one

-- rising numbers from one on, all below another
rising_few : {X : Type 0} (key : X → ℕ) (low high : ℕ) (xs : List X) → AllLater (λ x y. key x < key y) xs → AllByRecursion (λ x. low ≤ key x) xs → AllByRecursion (λ x. key x < high) xs → length xs ≤ high - low
rising_few key low high [] rises from below = omega arith
rising_few key low high (x ∷ xs) rises from below = omega (arith, from.0, below.0, rising_few key (key x + 1) high xs rises.1 (all-weaker (λ y. key x < key y) (λ y. key x + 1 ≤ key y) xs (λ y lt. omega (arith, lt)) rises.0) below.1)

-- fewer versions of a file are held than there are numbers before one
before_few : (files : List FileRow) (now : ℕ) (rows : List VersionRow) (file number : ℕ) → AreVersions files now rows → length (filter (is_before file number) rows) ≤ number - 1
before_few files now rows file number old = rising_few (λ (row : VersionRow). row.number) 1 number (filter (is_before file number) rows)
    (later-filter ArePlaced (λ x y. x.number < y.number) (is_before file number) rows (λ x y p q placed. let after = placed.after in grind (arith, nat_tests, p, q)) old.placed)
    (firsts rows old.each) (lasts rows) where
      firsts : (xs : List VersionRow) → AllByRecursion (IsVersion files now) xs → AllByRecursion (λ x. 1 ≤ x.number) (filter (is_before file number) xs)
      firsts [] all = tt
      firsts (x ∷ xs) all = let first = all.0.first in grind (arith, firsts xs)

      lasts : (xs : List VersionRow) → AllByRecursion (λ x. x.number < number) (filter (is_before file number) xs)
      lasts [] = tt
      lasts (x ∷ xs) = grind (arith, nat_tests, lasts xs)

-- ---- the files

module _ (w : World) where
  -- the versions that count: those held, and each last one that isn't
  abbrev count : ℕ
  count = min (length w.versions + length (filter (has_lost_last w) w.files)) w.made.versions

  module _ (versions : AreVersions w.files w.now w.versions) (rows : length w.versions ≤ w.made.versions) where
    next_fits : (row : FileRow) → 2 ≤ row.next → row.next ≤ w.made.versions + 1 → (has_lost_last w row ≡ true → list_any (has_lost_last w) w.files ≡ true) → new_version w.versions row.id (row.next - 1) ≤ count
    next_fits row first next lost = elim (is_held w row.id (row.next - 1)) as (λ h. is_held w row.id (row.next - 1) ≡ h → new_version w.versions row.id (row.next - 1) ≤ count) [
      | true ↦ λ held. omega (arith, version_within w.versions row.id (row.next - 1) held, rows)
      | false ↦ λ gone.
          let some : 0 < length (filter (has_lost_last w) w.files) = filter-some (has_lost_last w) w.files (lost (rw gone refl)) in
          omega (arith, some, filter-within (is_before row.id (row.next - 1)) w.versions, before_few w.files w.now w.versions row.id (row.next - 1) versions, next, first)
    ] refl

    each_file : (row : FileRow) → IsFile w.made.files w.made.versions row → has_file w.files row.id ≡ true → (has_lost_last w row ≡ true → list_any (has_lost_last w) w.files ≡ true) → IsFile (length w.files) count (renewed_file w row)
    each_file row is there lost = record {
      numbered = omega arith;
      given = file_below w.files row.id there;
      first = omega arith;
      next = omega (arith, next_fits row is.first is.next lost);
      policy = is.policy;
    }

    pub renewed_files : AreFiles w.made.files w.made.versions w.files → AreFiles (length w.files) count (map (renewed_file w) w.files)
    renewed_files old = record {
      each = all-map (renewed_file w) (IsFile (length w.files) count) w.files
          (all-weaker (λ x. IsFile w.made.files w.made.versions x × ((has_file w.files x.id ≡ true) × (has_lost_last w x ≡ true → list_any (has_lost_last w) w.files ≡ true))) (λ x. IsFile (length w.files) count (renewed_file w x)) w.files
          (λ x h. each_file x h.0 (h.1.0) (h.1.1))
          (all-both (IsFile w.made.files w.made.versions) (λ x. (has_file w.files x.id ≡ true) × (has_lost_last w x ≡ true → list_any (has_lost_last w) w.files ≡ true)) w.files old.each
          (all-both (λ x. has_file w.files x.id ≡ true) (λ x. has_lost_last w x ≡ true → list_any (has_lost_last w) w.files ≡ true) w.files (files_there w.files) (all-some (has_lost_last w) w.files))));
      placed = later-map (renewed_file w) (λ earlier later. earlier.id < later.id) w.files
          (later-weaker (λ x y. (has_file w.files x.id ≡ true) × (has_file w.files y.id ≡ true) × (x.id < y.id)) (λ x y. new_file w.files x.id < new_file w.files y.id) w.files
          (λ x y h. file_lt w.files x.id y.id h.0 h.2)
          (later-both (λ x. has_file w.files x.id ≡ true) (λ x y. x.id < y.id) w.files (files_there w.files) old.placed));
    }
