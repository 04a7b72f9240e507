-- What the files of a renewed world use: the blocks that were shared are shared, and no others.
use Rattle.ele_lists.proofs.Alls.{all-append, all-filter}
use Rattle.ele_model.proofs.Versions.{all_found}
use Rattle.ele_renewal.proofs.Cells.{same_content}
use Rattle.ele_renewal.proofs.Contents.{one_block}
use Rattle.ele_renewal.proofs.Found.{IsWhole, versions_whole}
use Rattle.ele_renewal.proofs.Fresh.{file_same, has_file}
use Rattle.ele_renewal.proofs.Views.{any_same_all, filter_map_same, map_map_same, same_policy}
use Rattle.ele_renewal.proofs.Words.{AllByRecursion, Bool, Cell, IsClosed, IsStart, List, Some, VersionRow, World, [], all-any, all-both, all-weaker, any-map, ap, arith, content_of, false, filter, find, is_version, length, length-map, map, nat_tests, new_file, new_writer, refl, renewed_cells, renewed_file, renewed_version, slice_get, suc, sym, true, ℕ, ◌+◌, ◌==◌, ◌∙◌, ◌∷◌, ◌≡◌}
use Rattle.ele_content.specs.Place.{Place, different, is_place}
use Rattle.ele_model.specs.Usage.{bytes_in, is_file_of, is_of, places, places_from, usage_of}
use Rattle.ele_policy.specs.declared.policy.Kind.{Kind}
use Rattle.ele_usage.specs.declared.usage.Usage.{Usage}
use Rattle.std.proofs.Common.{append-nil}
use Rattle.std.proofs.lemmas.List.{map-append}
use Rattle.std.proofs.lemmas.List.Concat.{flat_map-cons}
use Rattle.std.specs.List.{flat_map, sum}
use Rattle.ele_renewal.specs.SameUsage.{RenewedHasSameUsage}

-- how many are different, under a change that keeps what is one
module _ {X : Type 0} (same : X → X → Bool) (g : X → X) (P : X → Type 0) (keeps : (x y : X) → P x → P y → same (g x) (g y) ≡ same x y) where
  pub different_same : (xs : List X) → AllByRecursion P xs → different same (map g xs) ≡ different same xs
  different_same [] all = refl
  different_same (x ∷ xs) all =
      let any = any-map g (λ y. same y (g x)) xs ∙ any_same_all (λ y. same (g y) (g x)) (λ y. same y x) xs (all-weaker P (λ y. same (g y) (g x) ≡ same y x) xs (λ y here. keeps y x here all.0) all.1) in
      rw (any, different_same xs all.1) refl

module _ (w : World) (old : IsStart w) where
  abbrev fresh : Place → Place
  fresh p = record { file = new_file w.files p.file; slot = p.slot; writer = new_writer w.versions p.file p.slot p.writer }

  -- ---- the blocks

  -- a held version has the block
  record IsHeldBlock (p : Place) : Type 0 where
    row : VersionRow
    there : has_file w.files row.file ≡ true
    found : find (is_version row.file row.number) w.versions ≡ Some row
    file : row.file ≡ p.file
    cell : Cell
    got : slice_get row.cells p.slot ≡ Some cell
    writer : cell.writer ≡ p.writer

  same_writer : (p q : Place) → IsHeldBlock p → IsHeldBlock q → p.file ≡ q.file → p.slot ≡ q.slot → (new_writer w.versions p.file p.slot p.writer == new_writer w.versions q.file q.slot q.writer) ≡ (p.writer == q.writer)
  same_writer p q here there files slots =
      let one : new_writer w.versions p.file p.slot p.writer ≡ new_writer w.versions q.file q.slot q.writer → p.writer ≡ q.writer = λ same.
      sym here.writer ∙ (one_block w.versions old.formed.versions.placed here.row there.row (here.file ∙ (files ∙ sym there.file)) here.found there.found p.slot here.cell there.cell here.got (rw slots there.got)
      (rw (here.file, here.writer, there.file, there.writer) (same ∙ (ap (λ (slot : ℕ). new_writer w.versions q.file slot q.writer) (sym slots)))) ∙ there.writer) in
      let back : p.writer ≡ q.writer → new_writer w.versions p.file p.slot p.writer ≡ new_writer w.versions q.file q.slot q.writer = λ same. rw (files, slots, same) refl in
      by p.writer q.writer (new_writer w.versions p.file p.slot p.writer) (new_writer w.versions q.file q.slot q.writer) one back where
        by : (a b x y : ℕ) → (x ≡ y → a ≡ b) → (a ≡ b → x ≡ y) → (x == y) ≡ (a == b)
        by a b x y one back = grind (arith, nat_tests, one, back)

  same_place : (p q : Place) → IsHeldBlock p → IsHeldBlock q → is_place (fresh p) (fresh q) ≡ is_place p q
  same_place p q here there = elim (p.file == q.file) as (λ t. (p.file == q.file) ≡ t → is_place (fresh p) (fresh q) ≡ is_place p q) [
    | true ↦ λ e. elim (p.slot == q.slot) as (λ t. (p.slot == q.slot) ≡ t → is_place (fresh p) (fresh q) ≡ is_place p q) [
      | true ↦ λ f. rw (files, e, f, same_writer p q here there (grind (arith, nat_tests, e)) (grind (arith, nat_tests, f))) refl
      | false ↦ λ f. rw (files, e, f) refl
    ] refl
    | false ↦ λ e. rw (files, e) refl
  ] refl where
    files : (new_file w.files p.file == new_file w.files q.file) ≡ (p.file == q.file)
    files = file_same w.files p.file q.file (rw (← here.file) here.there) (rw (← there.file) there.there)

  places_held : (row : VersionRow) → has_file w.files row.file ≡ true → find (is_version row.file row.number) w.versions ≡ Some row → (slot : ℕ) (cells : List Cell)
      → ((s at : ℕ) (cell : Cell) → at ≡ slot + s → slice_get cells s ≡ Some cell → slice_get row.cells at ≡ Some cell) → AllByRecursion IsHeldBlock (places_from row.file slot cells)
  places_held row there found slot [] each = tt
  places_held row there found slot (cell ∷ cells) each = (
    record { row = row; there = there; found = found; file = refl; cell = cell; got = each 0 slot cell (omega arith) refl; writer = refl },
    places_held row there found (slot + 1) cells (λ s at c is got. each (suc s) at c (omega (arith, is)) got),
  )

  blocks_held : (rows : List VersionRow) → AllByRecursion (λ row. (has_file w.files row.file ≡ true) × (find (is_version row.file row.number) w.versions ≡ Some row)) rows → AllByRecursion IsHeldBlock (flat_map (λ row. places_from row.file 0 row.cells) rows)
  blocks_held [] all = tt
  blocks_held (row ∷ rows) all = rw (flat_map-cons (λ (x : VersionRow). places_from x.file 0 x.cells) row rows)
      (all-append IsHeldBlock (places_from row.file 0 row.cells) (flat_map (λ row. places_from row.file 0 row.cells) rows)
      (places_held row all.0.0 all.0.1 0 row.cells (λ s at cell is got. let same : at ≡ s = omega (arith, is) in rw same got)) (blocks_held rows all.1))

  -- ---- the places of fresh rows

  places_one : (file slot : ℕ) (cells : List Cell) → places_from (new_file w.files file) slot (renewed_cells w.versions file slot cells) ≡ map fresh (places_from file slot cells)
  places_one file slot [] = refl
  places_one file slot (cell ∷ cells) = ap (λ (ps : List Place). fresh (record { file = file; slot = slot; writer = cell.writer }) ∷ ps) (places_one file (slot + 1) cells)

  places_all : (rows : List VersionRow) → flat_map (λ row. places_from row.file 0 row.cells) (map (renewed_version w) rows) ≡ map fresh (flat_map (λ row. places_from row.file 0 row.cells) rows)
  places_all [] = refl
  places_all (row ∷ rows) = rw (flat_map-cons (λ (x : VersionRow). places_from x.file 0 x.cells) (renewed_version w row) (map (renewed_version w) rows), flat_map-cons (λ (x : VersionRow). places_from x.file 0 x.cells) row rows, places_one row.file 0 row.cells, places_all rows)
      (sym (map-append fresh (places_from row.file 0 row.cells) (flat_map (λ row. places_from row.file 0 row.cells) rows)))

abbrev used : (files versions bytes blocks : ℕ) → Usage
used files versions bytes blocks = record { files = files; versions = versions; bytes = bytes; blocks = blocks }

one_usage : (files versions bytes blocks a b c d : ℕ) → files ≡ a → versions ≡ b → bytes ≡ c → blocks ≡ d → used files versions bytes blocks ≡ used a b c d
one_usage files versions bytes blocks a b c d one two three four = rw (one, two, three, four) refl

module _ (w : World) (old : IsStart w) (closed : IsClosed w) (k : Kind) where
  abbrev rows : List VersionRow
  rows = filter (λ row. is_file_of w.files k row.file) w.versions

  same_files : length (filter (is_of k) (map (renewed_file w) w.files)) ≡ length (filter (is_of k) w.files)
  same_files = ap length (filter_map_same (renewed_file w) (is_of k) (is_of k) w.files (all-any (λ row. is_of k (renewed_file w row) ≡ is_of k row) w.files (λ row. refl))) ∙ length-map (filter (is_of k) w.files) (renewed_file w)

  same_kind : (row : VersionRow) → IsWhole w old.formed.versions row → is_file_of (map (renewed_file w) w.files) k (new_file w.files row.file) ≡ is_file_of w.files k row.file
  same_kind row whole = rw (same_policy w old row.file whole.0) refl

  same_versions : filter (λ row. is_file_of (map (renewed_file w) w.files) k row.file) (map (renewed_version w) w.versions) ≡ map (renewed_version w) rows
  same_versions = filter_map_same (renewed_version w) (λ row. is_file_of (map (renewed_file w) w.files) k row.file) (λ row. is_file_of w.files k row.file) w.versions
      (all-weaker (IsWhole w old.formed.versions) (λ row. is_file_of (map (renewed_file w) w.files) k (new_file w.files row.file) ≡ is_file_of w.files k row.file) w.versions same_kind (versions_whole w old.formed.versions))

  same_bytes : bytes_in (map (renewed_version w) rows) ≡ bytes_in rows
  same_bytes = ap sum (map_map_same (λ (row : VersionRow). length (content_of row.cells)) (renewed_version w) (λ (row : VersionRow). length (content_of row.cells)) rows (λ row. ap length (same_content w.versions row.file 0 row.cells)))

  rows_held : AllByRecursion (λ row. (has_file w.files row.file ≡ true) × (find (is_version row.file row.number) w.versions ≡ Some row)) rows
  rows_held = all-filter (λ row. (has_file w.files row.file ≡ true) × (find (is_version row.file row.number) w.versions ≡ Some row)) (λ row. is_file_of w.files k row.file) w.versions
      (all-both (λ row. has_file w.files row.file ≡ true) (λ row. find (is_version row.file row.number) w.versions ≡ Some row) w.versions
      (all-weaker (IsWhole w old.formed.versions) (λ row. has_file w.files row.file ≡ true) w.versions (λ row whole. whole.0) (versions_whole w old.formed.versions))
      (all_found w.versions old.formed.versions.placed))

  same_blocks : different is_place (places (map (renewed_version w) rows) []) ≡ different is_place (places rows [])
  same_blocks = rw (append-nil (flat_map (λ (row : VersionRow). places_from row.file 0 row.cells) (map (renewed_version w) rows)), append-nil (flat_map (λ (row : VersionRow). places_from row.file 0 row.cells) rows), places_all w old rows)
      (different_same is_place (fresh w old) (IsHeldBlock w old) (same_place w old) (flat_map (λ row. places_from row.file 0 row.cells) rows) (blocks_held w old rows rows_held))

pub same_usage : RenewedHasSameUsage
unfolding usage_of
same_usage w old closed k =
    let versions = same_versions w old closed k in
    let held = rows w old closed k in
    let none : filter (λ row. is_file_of w.files k row.file) w.drafts ≡ [] = rw closed.drafts refl in
    rw (none, versions) (one_usage (length (filter (is_of k) (map (renewed_file w) w.files))) (length (map (renewed_version w) held)) (bytes_in (map (renewed_version w) held)) (different is_place (places (map (renewed_version w) held) []))
    (length (filter (is_of k) w.files)) (length held) (bytes_in held) (different is_place (places held []))
    (same_files w old closed k) (length-map held (renewed_version w)) (same_bytes w old closed k) (same_blocks w old closed k))
