-- Fresh numbers are in the order of the old ones, and different rows have different ones.
use Rattle.ele_renewal.proofs.Ranks.{all-there, filter-fewer, filter-le, filter-lt, keys-there, rank-below, rank-lt, rank-one, rank-same, rank-zero}
use Rattle.ele_renewal.proofs.Words.{AllByRecursion, Bool, DirectoryRow, FileRow, List, VersionRow, [], arith, has_directory, is_before, is_file, is_version, length, list_any, nat_tests, new_directory, new_file, new_version, next_of, true, ℕ, ◌<◌, ◌==◌, ◌∷◌, ◌≡◌, ◌≤◌}

-- ---- directories

module _ (rows : List DirectoryRow) where
  pub directory_lt : (a b : ℕ) → has_directory rows a ≡ true → a < b → new_directory rows a < new_directory rows b
  directory_lt a b there lt = rank-lt (λ (row : DirectoryRow). row.id) rows a b there lt

  pub directory_one : (a b : ℕ) → has_directory rows a ≡ true → has_directory rows b ≡ true → new_directory rows a ≡ new_directory rows b → a ≡ b
  directory_one a b here there same = rank-one (λ (row : DirectoryRow). row.id) rows a b here there same

  pub directory_same : (a b : ℕ) → has_directory rows a ≡ true → has_directory rows b ≡ true → (new_directory rows a == new_directory rows b) ≡ (a == b)
  directory_same a b here there = rank-same (λ (row : DirectoryRow). row.id) rows a b here there

  pub directory_below : (a : ℕ) → has_directory rows a ≡ true → new_directory rows a < length rows
  directory_below a there = rank-below (λ (row : DirectoryRow). row.id) rows a there

  pub directory_root : new_directory rows 0 ≡ 0
  directory_root = rank-zero (λ (row : DirectoryRow). row.id) rows

  pub directories_there : AllByRecursion (λ row. has_directory rows row.id ≡ true) rows
  directories_there = keys-there (λ (row : DirectoryRow). row.id) rows

-- ---- files

-- the file is there
abbrev pub has_file : List FileRow → ℕ → Bool
has_file rows id = list_any (is_file id) rows

pub file_there : (rows : List FileRow) (id : ℕ) → 0 < next_of rows id → has_file rows id ≡ true
file_there [] id lt = absurd (omega arith)
file_there (x ∷ xs) id lt = grind (arith, nat_tests, file_there xs id)

module _ (rows : List FileRow) where
  pub file_lt : (a b : ℕ) → has_file rows a ≡ true → a < b → new_file rows a < new_file rows b
  file_lt a b there lt = omega (arith, rank-lt (λ (row : FileRow). row.id) rows a b there lt)

  pub file_one : (a b : ℕ) → has_file rows a ≡ true → has_file rows b ≡ true → new_file rows a ≡ new_file rows b → a ≡ b
  file_one a b here there same = rank-one (λ (row : FileRow). row.id) rows a b here there (omega (arith, same))

  pub file_same : (a b : ℕ) → has_file rows a ≡ true → has_file rows b ≡ true → (new_file rows a == new_file rows b) ≡ (a == b)
  file_same a b here there = grind (arith, nat_tests, rank-one (λ (row : FileRow). row.id) rows a b here there)

  pub file_below : (a : ℕ) → has_file rows a ≡ true → new_file rows a ≤ length rows
  file_below a there = omega (arith, rank-below (λ (row : FileRow). row.id) rows a there)

  pub files_there : AllByRecursion (λ row. has_file rows row.id ≡ true) rows
  files_there = keys-there (λ (row : FileRow). row.id) rows

-- ---- versions of one file

module _ (rows : List VersionRow) (file : ℕ) where
  abbrev held : ℕ → Bool
  held number = list_any (is_version file number) rows

  pub version_le : (a b : ℕ) → a ≤ b → new_version rows file a ≤ new_version rows file b
  version_le a b le = omega (arith, filter-le (is_before file a) (is_before file b) rows (λ x h. grind (arith, nat_tests, h, le)))

  pub version_lt : (a b : ℕ) → held a ≡ true → a < b → new_version rows file a < new_version rows file b
  version_lt a b there lt = omega (arith, filter-lt (is_before file a) (is_before file b) (is_version file a) rows (λ x h. grind (arith, nat_tests, h, lt)) (λ x is. (grind (arith, nat_tests, is), grind (arith, nat_tests, is, lt))) there)

  pub version_one : (a b : ℕ) → held a ≡ true → held b ≡ true → new_version rows file a ≡ new_version rows file b → a ≡ b
  version_one a b here there same = grind (arith, version_lt a b here, version_lt b a there, same)

  -- a held version beside a number that is no smaller, held or not
  pub version_same : (a b : ℕ) → held a ≡ true → a ≤ b → (new_version rows file a == new_version rows file b) ≡ (a == b)
  version_same a b here le = grind (arith, nat_tests, version_lt a b here)

  pub version_within : (a : ℕ) → held a ≡ true → new_version rows file a ≤ length rows
  version_within a there = omega (arith, filter-fewer (is_before file a) (is_version file a) rows (λ x is. grind (arith, nat_tests, is)) there)

pub versions_there : (rows : List VersionRow) → AllByRecursion (λ row. list_any (is_version row.file row.number) rows ≡ true) rows
versions_there rows = all-there (λ x. is_version x.file x.number) rows (λ x. grind (arith, nat_tests))
