-- The progress of a copy of rows, or of a count of the places of a map.
use Rattle.ele_files.proofs.Words.{AllByRecursion, AllLater, Bool, Cell, Draft, DraftRow, File, Layout, List, LivesIn, LogRow, None, Option, Slot, Some, StockLaws, Store, [], all-got, all-weaker, ap, append_assoc, arith, bytes_at, cell_of, draft_in, eqb, filter, find, found_passes, get_or, get_or_from_slice_get, length, map, map-append, nat_tests, option_map, row_in, shown, slice_get, slice_get_within, slots_of, subst, suc, sym, take, take_more, true, zero, ℕ, ◌++◌, ◌+◌, ◌<◌, ◌∙◌, ◌∷◌, ◌≡◌, ◌≤◌, log_bytes, sum_by_cons, AllSessions, Counts, Keeps, Meets, Place, Usage, VersionRow, all_found, append_nil, bytes_in, cond, different, draft_of, file_usage, filter-buckets, flat_map, flat_map-map, flat_map_single, is_among, is_id, is_key, is_place, is_version_of, length-map, length-split, length-take-le, list_any, list_any-append, log_places, not, option_map_or, places, places_from, refl, rows_in, sum-map, sum_by-map, sum_by-same, ◌*◌, ◌^◌, Named, Tagged, file_stock, flat_map-append, names_from, names_in, names_of, stock_of}
use Rattle.ele_files.proofs.Rows.{its_id}
use Rattle.ele_files.proofs.Stock.{logs_live}
use Rattle.ele_files.proofs.Tagged.{own_rows}
use Rattle.ele_model.specs.World.{is_draft}
use Rattle.ele_sessions.specs.Sessions as sessions

module _ {X Y : Type 0} (g : X → Y) where
  -- one element more
  pub taken-next : (xs : List X) (i : ℕ) (x : X) → slice_get xs i ≡ Some x → map g (take (i + 1) xs) ≡ map g (take i xs) ++ g x ∷ []
  taken-next xs i x h = ap (map g) (take_more xs i x (slice_get_within xs i x h)) ∙ (map-append g (take i xs) (get_or xs i x ∷ []) ∙ ap (λ y. map g (take i xs) ++ g y ∷ []) (get_or_from_slice_get xs i x x h))

module _ {X : Type 0} where
  -- if keys rise, an element is the first of its key
  pub found-got : (key : X → ℕ) (xs : List X) (i : ℕ) (x : X) → AllLater (λ y z. key y < key z) xs → slice_get xs i ≡ Some x → find (λ y. eqb (key y) (key x)) xs ≡ Some x
  found-got key [] i x rise h = absurd cc
  found-got key (y ∷ ys) zero x rise h = grind (arith, nat_tests, h)
  found-got key (y ∷ ys) (suc i) x rise h = grind (arith, nat_tests, all-got, found-got key ys i x rise.1 h)

-- the cells of a map
module _ (laws : StockLaws) (s : Store) (m : Layout) (lives : LivesIn s m) (k : ℕ) (cell : ℕ × ℕ) (got : Some cell ≡ option_map (λ (x : Slot). (x.writer, x.block)) (slice_get (slots_of s m) k)) where
  slot : (x : Slot) × (slice_get (slots_of s m) k ≡ Some x) × ((x.writer, x.block) ≡ cell)
  slot = grind (arith, nat_tests)

  pub cell_next : (bytes : List ℕ) → bytes ≡ bytes_at s cell.1 → map (cell_of s) (take (k + 1) (slots_of s m)) ≡ map (cell_of s) (take k (slots_of s m)) ++ record { writer = cell.0; bytes = bytes } ∷ []
  cell_next bytes is =
      let next = taken-next (cell_of s) (slots_of s m) k slot.0 slot.1 in grind (arith, nat_tests, next, slot.2, is)

-- the rows of drafts
module _ (s : Store) (drafts : List Draft) (rise : AllLater (λ (x y : Draft). x.file < y.file) drafts) (k : ℕ) (t : ℕ × ℕ × Bool) (got : Some t ≡ option_map (λ (d : Draft). (d.file, d.opened, d.changed)) (slice_get drafts k)) where
  pub draft : (d : Draft) × (slice_get drafts k ≡ Some d) × ((d.file, d.opened, d.changed) ≡ t)
  draft = grind (arith, nat_tests)

  pub found : find (sessions.is_draft t.0) drafts ≡ Some draft.0
  found = let h = found-got (λ (d : Draft). d.file) drafts k draft.0 rise draft.1 in grind (arith, nat_tests, draft.2, h)

  pub draft_there : None ≡ option_map (λ (d : Draft). d.layout) (find (sessions.is_draft t.0) drafts) → ⊥
  draft_there none = grind (arith, none, found)

  pub draft_next : (m : Layout) (cells : List Cell) → Some m ≡ option_map (λ (d : Draft). d.layout) (find (sessions.is_draft t.0) drafts) → cells ≡ shown s m → map (draft_in s) (take (k + 1) drafts) ≡ map (draft_in s) (take k drafts) ++ record { file = t.0; opened = t.1; cells = cells; changed = t.2 } ∷ []
  draft_next m cells layout is = let next = taken-next (draft_in s) drafts k draft.0 draft.1 in grind (arith, nat_tests, next, draft.2, found, layout, is)

-- ---- different places

-- a place after others counts unless it is one of them
different-push : (places : List Place) (place : Place) → different is_place (places ++ place ∷ []) ≡ different is_place places + cond (is_among places place) 0 1
different-push [] place = refl
different-push (x ∷ xs) place = grind (arith, nat_tests, list_any-append, different-push xs place)

-- ---- one slot more

module _ (file slot writer : ℕ) where
  abbrev met : Place
  met = record { file = file; slot = slot; writer = writer }

  pub met_next : (was now : List (ℕ × ℕ)) (added : Bool) → added ≡ not (list_any (is_key slot writer) was) → length now ≡ length was + cond added 1 0
      → ((key : ℕ × ℕ) → list_any (is_key key.0 key.1) now ≡ cond (is_key slot writer key) true (list_any (is_key key.0 key.1) was))
      → (before places : List Place) → Counts file was (before ++ places) → Counts file now (before ++ (places ++ met ∷ []))
  met_next was now added is long has before places counts = subst (Counts file now) (append_assoc before places (met ∷ [])) (record {
    count = grind (arith, nat_tests, counts.has slot writer, counts.count, different-push (before ++ places) met);
    has = λ s w. grind (arith, nat_tests, has (s, w), counts.has s w, list_any-append (λ p. is_place p (record { file = file; slot = s; writer = w })) (before ++ places) (met ∷ []));
  })

-- ---- the slots of a map

-- nothing was met
pub meets_none : (file : ℕ) (keys : List (ℕ × ℕ)) → Meets file keys keys []
meets_none file keys before counts = subst (Counts file keys) (sym (append_nil before)) counts

-- one after the other
pub meets_then : (file : ℕ) (was then now : List (ℕ × ℕ)) (places more : List Place) → Meets file was then places → Meets file then now more → Meets file was now (places ++ more)
meets_then file was then now places more first second before counts = subst (Counts file now) (append_assoc before places more) (second (before ++ places) (first before counts))

pub places_from-push : (file first : ℕ) (cells : List Cell) (cell : Cell) → places_from file first (cells ++ cell ∷ []) ≡ places_from file first cells ++ record { file = file; slot = first + length cells; writer = cell.writer } ∷ []
places_from-push file first [] cell = grind (arith, nat_tests)
places_from-push file first (c ∷ cells) cell = grind (arith, nat_tests, places_from-push file (first + 1) cells cell)

module _ (laws : StockLaws) (s : Store) (m : Layout) (lives : LivesIn s m) (k : ℕ) (cell : ℕ × ℕ) (got : Some cell ≡ option_map (λ (x : Slot). (x.writer, x.block)) (slice_get (slots_of s m) k)) (within : k ≤ length (slots_of s m)) (file : ℕ) where
  abbrev so_far : List Cell
  so_far = map (cell_of s) (take k (slots_of s m))

  pub places_next : places_from file 0 (map (cell_of s) (take (k + 1) (slots_of s m))) ≡ places_from file 0 so_far ++ record { file = file; slot = k; writer = cell.0 } ∷ []
  places_next = grind (arith, nat_tests, cell_next laws s m lives k cell got (bytes_at s cell.1) refl, places_from-push file 0 so_far, length-map (take k (slots_of s m)) (cell_of s), length-take-le k (slots_of s m) within)

-- ---- the bytes of a log

pub bytes_few : StockLaws → (s : Store) (rows : List LogRow) → AllByRecursion (λ (row : LogRow). LivesIn s row.cells) rows → log_bytes rows ≤ length rows * 1048576
bytes_few laws s [] lives = omega arith
bytes_few laws s (row ∷ rows) lives = omega (arith, sum_by_cons (λ (r : LogRow). r.cells.size) row rows, laws.short s row.cells lives.0, bytes_few laws s rows lives.1)

pub log_shown : (s : Store) (file : ℕ) (rows : List LogRow) → log_places s rows file ≡ flat_map (λ (row : VersionRow). places_from row.file 0 row.cells) (map (row_in s file) rows)
log_shown s file rows = sym (flat_map-map (λ (row : VersionRow). places_from row.file 0 row.cells) (row_in s file) rows)

-- ---- the rows of one file

abbrev row_places : VersionRow → List Place
row_places row = places_from row.file 0 row.cells

abbrev draft_row_places : DraftRow → List Place
draft_row_places row = places_from row.file 0 row.cells

abbrev usage_by : ℕ → ℕ → ℕ → Usage
usage_by count bytes blocks = record { files = 1; versions = count; bytes = bytes; blocks = blocks }

module _ (s : Store) (files : List File) (a : AllSessions) (kept : Keeps s files a) (file : ℕ) where
  abbrev own : List VersionRow
  own = filter (is_version_of file) (flat_map (rows_in s) files)

  module _ (f : File) (found : find (is_id file) files ≡ Some f) where
    pub shows : own ≡ rows_in s f
    shows = own_rows s files a kept file f found

    pub own_count : length own ≡ length f.log.rows
    own_count = ap length shows ∙ length-map f.log.rows (row_in s f.id)

    pub own_bytes : log_bytes f.log.rows ≡ bytes_in own
    own_bytes = grind (arith, nat_tests, shows, sum_by-same, all-weaker, sum_by-map, sum-map, all_found, logs_live)

    pub own_few : length (flat_map (rows_in s) files) ≤ 2 ^ 40 → log_bytes f.log.rows < 2 ^ 64
    own_few few = omega (arith, bytes_few kept.laws s f.log.rows (all_found (is_id file) (λ (g : File). AllByRecursion (λ (row : LogRow). LivesIn s row.cells) g.log.rows) files f found (logs_live s files a kept)), own_count, length-split (is_version_of file) (flat_map (rows_in s) files))

    pub own_places : log_places s f.log.rows file ≡ places own []
    own_places = ap (log_places s f.log.rows) (sym (its_id files file f found)) ∙ log_shown s f.id f.log.rows ∙ ap (flat_map row_places) (sym shows) ∙ sym (append_nil (flat_map row_places own))

-- a file has one draft at most
pub draft_places : (s : Store) (a : AllSessions) (file : ℕ) → AllLater (λ (x y : Draft). x.file < y.file) a.drafts → flat_map draft_row_places (filter (is_draft file) (map (draft_in s) a.drafts)) ≡ option_map_or (λ m. places_from file 0 (shown s m)) (option_map (λ (d : Draft). d.layout) (draft_of a file)) []
draft_places s a file rise =
    ap (flat_map draft_row_places) (ap (filter (is_draft file)) (sym (flat_map_single (draft_in s) a.drafts)) ∙ filter-buckets (λ (d : Draft). d.file) (λ d. draft_in s d ∷ []) (λ (row : DraftRow). row.file) (λ d. (refl, tt)) file a.drafts rise)
    ∙ by (draft_of a file) refl where
      by : (o : Option Draft) → draft_of a file ≡ o → flat_map draft_row_places (option_map_or (λ d. draft_in s d ∷ []) o []) ≡ option_map_or (λ m. places_from file 0 (shown s m)) (option_map (λ (d : Draft). d.layout) o) []
      by o is = grind (arith, nat_tests, found_passes, append_nil)

-- ---- what the file uses

pub none_count : (file : ℕ) (keys : List (ℕ × ℕ)) → keys ≡ [] → Counts file keys []
none_count file keys none = rw none (record { count = refl; has = λ slot writer. refl })

module _ (versions : List VersionRow) (drafts : List DraftRow) (file : ℕ) (none then now : List (ℕ × ℕ)) (start : Counts file none []) (first : Meets file none then (places (filter (is_version_of file) versions) [])) (second : Meets file then now (places [] (filter (is_draft file) drafts))) where
  pub met_all : length now ≡ different is_place (places (filter (is_version_of file) versions) (filter (is_draft file) drafts))
  met_all =
      (second (places (filter (is_version_of file) versions) []) (first [] start)).count
      ∙ ap (λ ps. different is_place (ps ++ flat_map draft_row_places (filter (is_draft file) drafts))) (append_nil (flat_map row_places (filter (is_version_of file) versions)))

  pub usage_counts : (count bytes blocks : ℕ) → count ≡ length (filter (is_version_of file) versions) → bytes ≡ bytes_in (filter (is_version_of file) versions) → blocks ≡ length now → usage_by count bytes blocks ≡ file_usage versions drafts file
  usage_counts count bytes blocks counts sums meets = rw (counts, sums, meets, met_all) refl

abbrev place : Named → Place
place n = n.place

module _ (s : Store) where
  abbrev tag_places : Tagged → List Place
  tag_places t = places_from t.file 0 (shown s t.layout)

  slot-places : (file first : ℕ) (slots : List Slot) → map place (names_from file first slots) ≡ places_from file first (map (cell_of s) slots)
  slot-places file first [] = refl
  slot-places file first (x ∷ xs) = ap (λ ps. record { file = file; slot = first; writer = x.writer } ∷ ps) (slot-places file (first + 1) xs)

  stock-places : (ts : List Tagged) → map place (names_in s ts) ≡ flat_map tag_places ts
  stock-places [] = refl
  stock-places (t ∷ ts) = rw (map-append place (names_of s t.file t.layout) (names_in s ts), slot-places t.file 0 (slots_of s t.layout), stock-places ts) refl

  file-places : (files : List File) → flat_map tag_places (flat_map file_stock files) ≡ flat_map row_places (flat_map (rows_in s) files)
  file-places [] = refl
  file-places (f ∷ fs) = grind (arith, flat_map-append, flat_map-map, file-places fs)

  pub places_shown : (files : List File) (drafts : List Draft) → map place (names_in s (stock_of files drafts)) ≡ places (flat_map (rows_in s) files) (map (draft_in s) drafts)
  places_shown files drafts = grind (arith, stock-places (stock_of files drafts), flat_map-append, flat_map-map, file-places)
