-- Cells with fresh writers: the same content, and no writer past its version.
use Rattle.ele_renewal.proofs.Words.{AllByRecursion, AreWrittenBy, Bool, Cell, IsContent, List, Some, VersionRow, [], arith, content_of, fill_slots, find, length, nat_tests, new_writer, option_map_or, refl, renewed_cells, slice_get, suc, true, zero, ℕ, ◌+◌, ◌-◌, ◌++◌, ◌∷◌, ◌≡◌, ◌≤◌}
use Rattle.std.proofs.lemmas.List.Concat.{flat_map-cons}

module _ (rows : List VersionRow) (file : ℕ) where
  pub same_content : (slot : ℕ) (cells : List Cell) → content_of (renewed_cells rows file slot cells) ≡ content_of cells
  same_content slot [] = refl
  same_content slot (cell ∷ cells) = rw (flat_map-cons (λ (x : Cell). x.bytes) (record { writer = new_writer rows file slot cell.writer; bytes = cell.bytes }) (renewed_cells rows file (slot + 1) cells), same_content (slot + 1) cells, flat_map-cons (λ (x : Cell). x.bytes) cell cells) refl

  pub same_slots : (n slot : ℕ) (cells : List Cell) → fill_slots n (renewed_cells rows file slot cells) ≡ fill_slots n cells
  same_slots n slot [] = refl
  same_slots n slot (cell ∷ cells) = rw (same_slots (n - 512) (slot + 1) cells) refl

  pub content_renewed : (cells : List Cell) → IsContent cells → IsContent (renewed_cells rows file 0 cells)
  content_renewed cells old = record {
    short = rw (same_content 0 cells) old.short;
    slots = rw (same_content 0 cells, same_slots (length (content_of cells)) 0 cells) old.slots;
  }

  -- a fresh cell is that of an old one, which was counted as this slot
  pub record IsFresh (cells : List Cell) (slot at : ℕ) (fresh : Cell) : Type 0 where
    pub cell : Cell
    pub found : slice_get cells slot ≡ Some cell
    pub bytes : fresh.bytes ≡ cell.bytes
    pub writer : fresh.writer ≡ new_writer rows file at cell.writer

  pub fresh_cell : (first : ℕ) (cells : List Cell) (slot at : ℕ) (fresh : Cell) → at ≡ first + slot → slice_get (renewed_cells rows file first cells) slot ≡ Some fresh → IsFresh cells slot at fresh
  fresh_cell first [] slot at fresh is found = absurd cc
  fresh_cell first (cell ∷ cells) zero at fresh is found =
      let same : at ≡ first = omega (arith, is) in
      let one : record { writer = new_writer rows file first cell.writer; bytes = cell.bytes } ≡ fresh = cc in
      rw (← one, same) (record { cell = cell; found = refl; bytes = refl; writer = refl })
  fresh_cell first (cell ∷ cells) (suc slot) at fresh is found =
      let rest = fresh_cell (first + 1) cells slot at fresh (omega (arith, is)) found in
      record { cell = rest.cell; found = rest.found; bytes = rest.bytes; writer = rest.writer }

  -- ---- writers

  -- a bound on the writers, slot by slot
  pub written_by : (bound slot : ℕ) (cells : List Cell) → ((s at : ℕ) (cell : Cell) → at ≡ slot + s → slice_get cells s ≡ Some cell → new_writer rows file at cell.writer ≤ bound) → AreWrittenBy bound (renewed_cells rows file slot cells)
  written_by bound slot [] each = tt
  written_by bound slot (cell ∷ cells) each = (each 0 slot cell (omega arith) refl, written_by bound (slot + 1) cells (λ s at c is found. each (suc s) at c (omega (arith, is)) found))

-- the number of the first that passes, if one that passes is there and those before it that do have no greater number
pub first_le : (g : VersionRow → ℕ) (p : VersionRow → Bool) (before : List VersionRow) (row : VersionRow) (behind : List VersionRow) → p row ≡ true → AllByRecursion (λ z. p z ≡ true → g z ≤ g row) before → option_map_or g (find p (before ++ row ∷ behind)) 0 ≤ g row
first_le g p [] row behind passes less = rw passes (omega arith)
first_le g p (z ∷ before) row behind passes less = grind (arith, nat_tests, first_le g p before row behind passes)
