-- Versions with fresh numbers and writers.
use Rattle.ele_lists.proofs.Alls.{later-around}
use Rattle.ele_renewal.proofs.Cells.{content_renewed, first_le, written_by}
use Rattle.ele_renewal.proofs.Files.{next_renewed}
use Rattle.ele_renewal.proofs.Fresh.{file_lt, file_one, file_there, has_file, version_le, version_lt, versions_there}
use Rattle.ele_renewal.proofs.Ranks.{later-both}
use Rattle.ele_renewal.proofs.Words.{AllByRecursion, AllLater, ArePlaced, AreVersions, AreWrittenBy, Cell, IsVersion, List, Some, VersionRow, World, all-both, all-map, all-split, all-weaker, ap, arith, false, find, has_block, is_version, is_version_after, later-map, later-weaker, list_any, map, nat_tests, new_file, new_version, new_writer, next_of, refl, renewed_cells, renewed_file, renewed_version, slice_get, subst, true, ℕ, ◌++◌, ◌-◌, ◌<◌, ◌==◌, ◌∷◌, ◌≡◌, ◌≤◌}

-- ---- writers

-- a cell of the version is a block that it has
pub has_own : (row : VersionRow) (slot : ℕ) (cell : Cell) → slice_get row.cells slot ≡ Some cell → has_block row.file slot cell.writer row ≡ true
has_own row slot cell found = grind (arith, nat_tests)

-- the first that has the block has no greater number than one that has it
first_writer : (rows before : List VersionRow) (row : VersionRow) (behind : List VersionRow) → AllLater ArePlaced rows → rows ≡ before ++ row ∷ behind → (slot writer : ℕ) → has_block row.file slot writer row ≡ true → new_writer rows row.file slot writer ≤ new_version rows row.file row.number
first_writer rows before row behind placed whole slot writer has =
    let around = later-around ArePlaced before row behind (subst (λ (xs : List VersionRow). AllLater ArePlaced xs) whole placed) in
    let there : find (has_block row.file slot writer) rows ≡ find (has_block row.file slot writer) (before ++ row ∷ behind) = ap (find (has_block row.file slot writer)) whole in
    rw there (first_le (λ x. new_version rows row.file x.number) (has_block row.file slot writer) before row behind has
    (all-weaker (λ z. ArePlaced z row) (λ z. has_block row.file slot writer z ≡ true → new_version rows row.file z.number ≤ new_version rows row.file row.number) before
    (λ z placed passes. let after = placed.after in version_le rows row.file z.number row.number (grind (arith, nat_tests, passes))) around.0))

written : (rows : List VersionRow) → AllLater ArePlaced rows → AllByRecursion (λ row. AreWrittenBy (new_version rows row.file row.number) (renewed_cells rows row.file 0 row.cells)) rows
written rows placed = all-split (λ row. AreWrittenBy (new_version rows row.file row.number) (renewed_cells rows row.file 0 row.cells)) rows (λ before row behind whole.
    written_by rows row.file (new_version rows row.file row.number) 0 row.cells (λ s at cell is found.
    let same : at ≡ s = omega (arith, is) in
    rw same (first_writer rows before row behind placed whole s cell.writer (has_own row s cell found))))

-- ---- the rows

module _ (w : World) where
  abbrev IsHeldHere : VersionRow → Type 0
  IsHeldHere row = (has_file w.files row.file ≡ true) × (list_any (is_version row.file row.number) w.versions ≡ true)

  each_version : (row : VersionRow) → IsVersion w.files w.now row → AreWrittenBy (new_version w.versions row.file row.number) (renewed_cells w.versions row.file 0 row.cells) → IsVersion (map (renewed_file w) w.files) w.now (renewed_version w row)
  each_version row is written =
      let there : has_file w.files row.file ≡ true = file_there w.files row.file (omega (arith, is.numbered)) in
      record {
        first = omega arith;
        numbered = rw (next_renewed w row.file there) (omega (arith, version_le w.versions row.file row.number (next_of w.files row.file - 1) (omega (arith, is.numbered))));
        opened = is.opened;
        closed = is.closed;
        ended = is.ended;
        open_end = λ none.
            let last : next_of w.files row.file - 1 ≡ row.number = omega (arith, is.open_end none) in
            rw (next_renewed w row.file there, last) refl;
        content = content_renewed w.versions row.file row.cells is.content;
        written = written;
      }

  placed_after : (x y : VersionRow) → IsHeldHere x → is_version_after x.file x.number y ≡ true → is_version_after (new_file w.files x.file) (new_version w.versions x.file x.number) (renewed_version w y) ≡ true
  placed_after x y here after = elim (y.file == x.file) as (λ t. (y.file == x.file) ≡ t → is_version_after (new_file w.files x.file) (new_version w.versions x.file x.number) (renewed_version w y) ≡ true) [
    | true ↦ λ e.
        let same : y.file ≡ x.file = grind (arith, nat_tests, e) in
        let more : x.number < y.number = grind (arith, nat_tests, after, same) in
        let lt = version_lt w.versions x.file x.number y.number here.1 more in
        rw same (grind (arith, nat_tests, lt))
    | false ↦ λ e.
        let more : x.file < y.file = grind (arith, nat_tests, after, e) in
        let lt = file_lt w.files x.file y.file here.0 more in
        grind (arith, nat_tests, lt)
  ] refl

  each_placed : (x y : VersionRow) → IsHeldHere x → IsHeldHere y → ArePlaced x y → ArePlaced (renewed_version w x) (renewed_version w y)
  each_placed x y here there placed = record {
    after = placed_after x y here placed.after;
    ended = λ same. placed.ended (file_one w.files x.file y.file here.0 there.0 same);
  }

  held_here : AreVersions w.files w.now w.versions → AllByRecursion IsHeldHere w.versions
  held_here old = all-both (λ row. has_file w.files row.file ≡ true) (λ row. list_any (is_version row.file row.number) w.versions ≡ true) w.versions
      (all-weaker (IsVersion w.files w.now) (λ row. has_file w.files row.file ≡ true) w.versions (λ row is. file_there w.files row.file (omega (arith, is.numbered))) old.each)
      (versions_there w.versions)

  pub renewed_versions : AreVersions w.files w.now w.versions → AreVersions (map (renewed_file w) w.files) w.now (map (renewed_version w) w.versions)
  renewed_versions old = record {
    each = all-map (renewed_version w) (IsVersion (map (renewed_file w) w.files) w.now) w.versions
        (all-weaker (λ row. IsVersion w.files w.now row × AreWrittenBy (new_version w.versions row.file row.number) (renewed_cells w.versions row.file 0 row.cells)) (λ row. IsVersion (map (renewed_file w) w.files) w.now (renewed_version w row)) w.versions
        (λ row h. each_version row h.0 h.1)
        (all-both (IsVersion w.files w.now) (λ row. AreWrittenBy (new_version w.versions row.file row.number) (renewed_cells w.versions row.file 0 row.cells)) w.versions old.each (written w.versions old.placed)));
    placed = later-map (renewed_version w) ArePlaced w.versions
        (later-weaker (λ x y. IsHeldHere x × IsHeldHere y × ArePlaced x y) (λ x y. ArePlaced (renewed_version w x) (renewed_version w y)) w.versions
        (λ x y h. each_placed x y h.0 h.1 h.2)
        (later-both IsHeldHere ArePlaced w.versions (held_here old) old.placed));
  }
