-- Writers by block: one more cell, one more version, and the cells that have fresh writers by them.
use Rattle.ele_renewal.proofs.Words.{Bool, Cell, List, None, Option, Some, VersionRow, [], arith, cond, false, find, has_block, is_written_by, length, nat_lt, nat_tests, new_version, option_map, option_map_or, option_or, refl, renewed_cells, slice_get, take, true, ℕ, ◌&&◌, ◌++◌, ◌+◌, ◌<◌, ◌==◌, ◌||◌, ◌∷◌, ◌≡◌, ◌≤◌}
use Rattle.std.proofs.lemmas.List.Folds.{find-append}
use Rattle.std.proofs.lemmas.Option.{slice_get_past}
use Rattle.std.specs.BTreeMap.{get, is_at}
use Rattle.ele_renewal.specs.Writers.{AddsBlocks, AreFirst, Writers, block_cmp, cells_by, first_in, writer_in}

-- ---- one more cell

module _ (file slot : ℕ) (cells : List Cell) (cell : Cell) (found : slice_get cells slot ≡ Some cell) where
  -- the blocks of the slots up to one are those before it and the one of its cell
  block_more : (other at writer : ℕ) → ((file == other) && (nat_lt at (slot + 1) && is_written_by writer cells at)) ≡ (((file == other) && (nat_lt at slot && is_written_by writer cells at)) || is_at (block_cmp (file, slot, cell.writer)) (other, at, writer))
  block_more other at writer = elim (at == slot) as (λ t. (at == slot) ≡ t → ((file == other) && (nat_lt at (slot + 1) && is_written_by writer cells at)) ≡ (((file == other) && (nat_lt at slot && is_written_by writer cells at)) || is_at (block_cmp (file, slot, cell.writer)) (other, at, writer))) [
    | true ↦ λ e. let same : at ≡ slot = grind (arith, nat_tests, e) in rw (same, found) (grind (arith, nat_tests))
    | false ↦ λ e. grind (arith, nat_tests, e)
  ] refl

  either : (o : Option ℕ) (number : ℕ) (a b : Bool) → option_or (option_or o (cond a (Some number) None)) (cond b (Some number) None) ≡ option_or o (cond (a || b) (Some number) None)
  either None number true b = refl
  either None number false b = refl
  either (Some n) number a b = refl

  pub blocks_more : (old now new : Writers) (number : ℕ)
      → ((other at writer : ℕ) → writer_in now other at writer ≡ option_or (writer_in old other at writer) (cond ((file == other) && (nat_lt at slot && is_written_by writer cells at)) (Some number) None))
      → ((other : ℕ × ℕ × ℕ) → get block_cmp new other ≡ option_or (get block_cmp now other) (cond (is_at (block_cmp (file, slot, cell.writer)) other) (Some number) None))
      → (other at writer : ℕ) → writer_in new other at writer ≡ option_or (writer_in old other at writer) (cond ((file == other) && (nat_lt at (slot + 1) && is_written_by writer cells at)) (Some number) None)
  blocks_more old now new number known put other at writer = rw (block_more other at writer, put (other, at, writer), known other at writer) (either (writer_in old other at writer) number ((file == other) && (nat_lt at slot && is_written_by writer cells at)) (is_at (block_cmp (file, slot, cell.writer)) (other, at, writer)))

-- no slot past the last is written
pub all_blocks : (cells : List Cell) (slot : ℕ) → length cells ≤ slot → (at writer : ℕ) → (nat_lt at slot && is_written_by writer cells at) ≡ is_written_by writer cells at
all_blocks cells slot past at writer = elim (nat_lt at slot) as (λ t. nat_lt at slot ≡ t → (nat_lt at slot && is_written_by writer cells at) ≡ is_written_by writer cells at) [
  | true ↦ λ e. rw e refl
  | false ↦ λ e. rw (e, slice_get_past cells at (grind (arith, nat_tests, past, e))) refl
] refl

-- ---- one more version

first_or : (o : Option VersionRow) (row : VersionRow) (b : Bool) (g : VersionRow → ℕ) → option_map g (option_or o (cond b (Some row) None)) ≡ option_or (option_map g o) (cond b (Some (g row)) None)
first_or None row true g = refl
first_or None row false g = refl
first_or (Some x) row b g = refl

found_one : (p : VersionRow → Bool) (row : VersionRow) → find p (row ∷ []) ≡ cond (p row) (Some row) None
found_one p row = grind arith

pub firsts_more : (rows : List VersionRow) (at : ℕ) (row : VersionRow) → at < length rows → take (at + 1) rows ≡ take at rows ++ row ∷ [] → (old new : Writers) → AreFirst rows (take at rows) old → AddsBlocks old new row.file (new_version rows row.file row.number) row.cells → AreFirst rows (take (at + 1) rows) new
firsts_more rows at row within taken old new known adds file slot writer = elim (row.file == file) as (λ t. (row.file == file) ≡ t → writer_in new file slot writer ≡ first_in rows (take (at + 1) rows) file slot writer) [
  | true ↦ λ e.
      let same : row.file ≡ file = grind (arith, nat_tests, e) in
      rw (adds file slot writer, known file slot writer, taken, find-append (has_block file slot writer) (take at rows) (row ∷ []), found_one (has_block file slot writer) row, first_or (find (has_block file slot writer) (take at rows)) row (has_block file slot writer row) (λ x. new_version rows file x.number), e, same) refl
  | false ↦ λ e.
      rw (adds file slot writer, known file slot writer, taken, find-append (has_block file slot writer) (take at rows) (row ∷ []), found_one (has_block file slot writer) row, first_or (find (has_block file slot writer) (take at rows)) row (has_block file slot writer row) (λ x. new_version rows file x.number), e) refl
] refl

-- ---- cells

unwrapped : (o : Option VersionRow) (g : VersionRow → ℕ) → option_map_or (λ n. n) (option_map g o) 0 ≡ option_map_or g o 0
unwrapped None g = refl
unwrapped (Some x) g = refl

pub cells_renewed : (rows : List VersionRow) (known : Writers) → AreFirst rows rows known → (file slot : ℕ) (cells : List Cell) → cells_by known file slot cells ≡ renewed_cells rows file slot cells
cells_renewed rows known first file slot [] = refl
cells_renewed rows known first file slot (cell ∷ cells) = rw (first file slot cell.writer, unwrapped (find (has_block file slot cell.writer) rows) (λ row. new_version rows file row.number), cells_renewed rows known first file (slot + 1) cells) refl
