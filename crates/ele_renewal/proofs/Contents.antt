-- One content for each place, with fresh writers: two writers at one slot have different first holders.
use Rattle.ele_model.proofs.Versions.{all_found}
use Rattle.ele_renewal.proofs.Cells.{IsFresh, fresh_cell}
use Rattle.ele_renewal.proofs.Fresh.{file_one, file_there, has_file, version_one}
use Rattle.ele_renewal.proofs.Lives.{any_find}
use Rattle.ele_renewal.proofs.Versions.{has_own}
use Rattle.ele_renewal.proofs.Words.{AllLater, ArePlaced, AreVersions, Cell, Draft, HasOneContent, IsVersion, List, None, Option, Some, Version, VersionRow, World, [], all-found, any-found, arith, false, find, find-map, found_passes, has_block, is_version, is_written_by, list_any, nat_tests, new_file, new_version, new_writer, option_map, option_map_or, refl, renewed, renewed_cells, renewed_version, slice_get, sym, true, version_cells, ℕ, ◌==◌, ◌∙◌, ◌≡◌}

-- ---- the first holder of a block

-- a held version, and its cell with that writer at the slot
record IsHolder (rows : List VersionRow) (file slot writer : ℕ) (holder : VersionRow) : Type 0 where
  of_file : holder.file ≡ file
  found : find (is_version file holder.number) rows ≡ Some holder
  writes : is_written_by writer holder.cells slot ≡ true
  number : new_writer rows file slot writer ≡ new_version rows file holder.number

found_as : (rows : List VersionRow) (file : ℕ) (row : VersionRow) → row.file ≡ file → find (is_version row.file row.number) rows ≡ Some row → find (is_version file row.number) rows ≡ Some row
found_as rows file row same found = rw (← same) found

holder_of : (rows : List VersionRow) → AllLater ArePlaced rows → (row : VersionRow) → find (is_version row.file row.number) rows ≡ Some row → (slot : ℕ) (cell : Cell) → slice_get row.cells slot ≡ Some cell → (holder : VersionRow) × IsHolder rows row.file slot cell.writer holder
holder_of rows placed row is slot cell found =
    let any = any-found (is_version row.file row.number) (has_block row.file slot cell.writer) rows row is (has_own row slot cell found) in
    let first = any_find (has_block row.file slot cell.writer) rows any in
    let passes = found_passes (has_block row.file slot cell.writer) rows first.0 first.1 in
    let own = all-found (has_block row.file slot cell.writer) (λ x. find (is_version x.file x.number) rows ≡ Some x) rows first.0 first.1 (all_found rows placed) in
    let of_file : (first.0).file ≡ row.file = grind (arith, nat_tests, passes) in (
      first.0,
      record {
        of_file = of_file;
        found = found_as rows row.file first.0 of_file own;
        writes = grind (arith, nat_tests, passes);
        number = rw first.1 refl;
      },
    )

held_found : (rows : List VersionRow) (file number : ℕ) (row : VersionRow) → find (is_version file number) rows ≡ Some row → list_any (is_version file number) rows ≡ true
held_found rows file number row found = any-found (is_version file number) (is_version file number) rows row found (found_passes (is_version file number) rows row found)

one_row : (o : Option VersionRow) (x y : VersionRow) → o ≡ Some x → o ≡ Some y → x ≡ y
one_row o x y a b = cc

one_writer : (cells : List Cell) (slot a b : ℕ) → is_written_by a cells slot ≡ true → is_written_by b cells slot ≡ true → a ≡ b
one_writer cells slot a b x y = by (slice_get cells slot) x y where
  by : (o : Option Cell) → option_map_or (λ cell. cell.writer == a) o false ≡ true → option_map_or (λ cell. cell.writer == b) o false ≡ true → a ≡ b
  by None x y = absurd cc
  by (Some cell) x y = grind (arith, nat_tests, x, y)

-- two blocks of one slot whose fresh writers are one have one writer
pub one_block : (rows : List VersionRow) → AllLater ArePlaced rows → (x y : VersionRow) → x.file ≡ y.file → find (is_version x.file x.number) rows ≡ Some x → find (is_version y.file y.number) rows ≡ Some y
    → (slot : ℕ) (cell other : Cell) → slice_get x.cells slot ≡ Some cell → slice_get y.cells slot ≡ Some other
    → new_writer rows x.file slot cell.writer ≡ new_writer rows y.file slot other.writer → cell.writer ≡ other.writer
one_block rows placed x y files here there slot cell other found other_found same =
    let a = holder_of rows placed x here slot cell found in
    let b = holder_of rows placed y there slot other other_found in
    let second : find (is_version x.file (b.0).number) rows ≡ Some b.0 = rw files b.1.found in
    let numbers : new_version rows x.file (a.0).number ≡ new_version rows x.file (b.0).number = sym a.1.number ∙ (same ∙ (rw files b.1.number)) in
    let number = version_one rows x.file (a.0).number (b.0).number (held_found rows x.file (a.0).number a.0 a.1.found) (held_found rows x.file (b.0).number b.0 second) numbers in
    let row : a.0 ≡ b.0 = one_row (find (is_version x.file (b.0).number) rows) a.0 b.0 (rw (← number) a.1.found) second in
    one_writer (b.0).cells slot cell.writer other.writer (rw (← row) a.1.writes) b.1.writes

-- ---- what is read

module _ (w : World) (versions : AreVersions w.files w.now w.versions) where
  -- the held version of a fresh cell
  record IsRead (fresh_file slot : ℕ) (fresh : Cell) : Type 0 where
    row : VersionRow
    there : has_file w.files row.file ≡ true
    file : new_file w.files row.file ≡ fresh_file
    found : find (is_version row.file row.number) w.versions ≡ Some row
    cell : IsFresh w.versions row.file row.cells slot slot fresh

  old_row : (o : Option VersionRow) (slot : ℕ) (fresh : Cell) → slice_get (option_map_or (λ row. row.cells) (option_map (renewed_version w) o) []) slot ≡ Some fresh → (row : VersionRow) × ((o ≡ Some row) × (slice_get (renewed_cells w.versions row.file 0 row.cells) slot ≡ Some fresh))
  old_row None slot fresh is = absurd cc
  old_row (Some row) slot fresh is = (row, (refl, is))

  read_row : (file number slot : ℕ) (fresh : Cell) → slice_get (version_cells (renewed w) file number) slot ≡ Some fresh → IsRead file slot fresh
  read_row file number slot fresh is =
      let seen = rw (find-map (renewed_version w) (is_version file number) w.versions) at is in
      let old = old_row (find (λ x. is_version file number (renewed_version w x)) w.versions) slot fresh seen in
      let row = old.0 in
      let passes = found_passes (λ x. is_version file number (renewed_version w x)) w.versions row old.1.0 in
      let held : IsVersion w.files w.now row = all-found (λ x. is_version file number (renewed_version w x)) (IsVersion w.files w.now) w.versions row old.1.0 versions.each in
      record {
        row = row;
        there = file_there w.files row.file (omega (arith, held.numbered));
        file = grind (arith, nat_tests, passes);
        found = all-found (λ x. is_version file number (renewed_version w x)) (λ x. find (is_version x.file x.number) w.versions ≡ Some x) w.versions row old.1.0 (all_found w.versions versions.placed);
        cell = fresh_cell w.versions row.file 0 row.cells slot slot fresh (omega arith) old.1.1;
      }

  same_bytes : HasOneContent w → (slot a b : ℕ) (x y : Cell) → a ≡ b → x.writer ≡ y.writer → IsRead a slot x → IsRead b slot y → x.bytes ≡ y.bytes
  same_bytes old slot a b x y files writers p q =
      let file = file_one w.files p.row.file q.row.file p.there q.there (p.file ∙ (files ∙ sym q.file)) in
      let writer = one_block w.versions versions.placed p.row q.row file p.found q.found slot p.cell.cell q.cell.cell p.cell.found q.cell.found (sym p.cell.writer ∙ (writers ∙ q.cell.writer)) in
      let bytes = old (Version p.row.file p.row.number) (Version q.row.file q.row.number) file slot p.cell.cell q.cell.cell (rw p.found p.cell.found) (rw q.found q.cell.found) writer in
      p.cell.bytes ∙ (bytes ∙ sym q.cell.bytes)

  pub renewed_contents : HasOneContent w → HasOneContent (renewed w)
  renewed_contents old (Draft file) other files slot x y found other_found writers = absurd cc
  renewed_contents old (Version file number) (Draft other) files slot x y found other_found writers = absurd cc
  renewed_contents old (Version file number) (Version other second) files slot x y found other_found writers =
      same_bytes old slot file other x y files writers (read_row file number slot x found) (read_row other second slot y other_found)
