-- The next file gets a version or a draft.
use Rattle.ele_files.proofs.Words.{AllByRecursion, AllLater, Cell, Draft, DraftRow, EndsInTime, File, HasRows, Held, IsDraftKept, IsFileKept, IsRowOf, Layout, List, LivesIn, LogRow, Named, Precedes, SameStock, Some, Stays, Store, Tagged, VersionRow, [], all-push, all-weaker, ap, append_assoc, append_nil, arith, draft_in, draft_stock, file_row, file_stock, false, find-at, flat_map, flat_map-all, held_in, is_id, later-push, map, map-all, map-append, names_in, names_of, nat_tests, new_draft, next_of, refl, row_in, row_stock, rows_in, shown, stock_of, sum_by, sum_by-map, sum_by_cons, sum_by_push, sym, ℕ, ◌++◌, ◌+◌, ◌<◌, ◌∙◌, ◌∷◌, ◌≡◌, ◌≤◌}
use Rattle.ele_blocks.specs.Made.{HasBlock, IsMade}
use Rattle.ele_blocks.specs.Placed.{Finds, HaveBytesOf, slots_with}
use Rattle.ele_blocks.specs.declared.new_slot.NewSlot.{NewSlot}
use Rattle.ele_blocks.specs.declared.placed.PlacedBlocks.{PlacedBlocks}
use Rattle.ele_files.proofs.Rows.{next_found}
use Rattle.ele_files.proofs.Sharing.{ShowsAgreed, finds_more, have_bytes, lives, shows, stays, stock_agreed, there}
use Rattle.ele_files.proofs.Stock.{held_stays, total}
use Rattle.ele_files.specs.Adding.{Growing, IsContentBeside, IsNextDraft, IsNextVersion, logged, with_drafts, with_versions}
use Rattle.ele_files.specs.Making.{Grows, unopened}
use Rattle.ele_lists.proofs.Alls.{all-exchange, all-mid, later-around, later-exchange}
use Rattle.ele_model.specs.WellFormed as formed

-- the rows that are seen
abbrev pub seen : Store → List File → File → List Draft → Growing
seen s files file drafts = record { held = held_in s (files ++ file ∷ []) (unopened drafts); file = file_row file }

-- the file with another row at the end of its log
abbrev pub with_row : File → LogRow → ℕ → File
with_row file new spare = record file { log = record { rows = file.log.rows ++ new ∷ []; spare = spare } }

pub is_with_row : (file g : File) (new : LogRow) → HasRows file g (file.log.rows ++ new ∷ []) → g ≡ with_row file new g.log.spare
is_with_row file g new h = rw (← h.id, ← h.policy, ← h.next, ← h.rows) refl

-- the last file, and its number
module _ (files : List File) (file : File) (rise : AllLater (λ (x y : File). x.id < y.id) (files ++ file ∷ [])) where
  before_last : AllByRecursion (λ (x : File). x.id < file.id) files
  before_last = (later-around (λ (x y : File). x.id < y.id) files file [] rise).0

  pub last_next : next_of (map file_row (files ++ file ∷ [])) file.id ≡ file.next
  last_next = next_found (files ++ file ∷ []) file.id (Some file) (find-at (is_id file.id) files file [] (all-weaker (λ (x : File). x.id < file.id) (λ (x : File). is_id file.id x ≡ false) files (λ x lt. grind (arith, nat_tests, lt)) before_last) (grind (arith, nat_tests)))

module _ (files : List File) (file : File) (new : LogRow) (spare : ℕ) where
  abbrev g : File
  g = with_row file new spare

  pub rows_same : map file_row (files ++ g ∷ []) ≡ map file_row (files ++ file ∷ [])
  rows_same = map-append file_row files (g ∷ []) ∙ sym (map-append file_row files (file ∷ []))

  pub stock_with_row : (drafts : List Draft) → SameStock (stock_of (files ++ g ∷ []) drafts) (row_stock file.id new ∷ stock_of (files ++ file ∷ []) drafts)
  stock_with_row drafts = record { sums = λ k. sums k } where
    sums : (k : Tagged → ℕ) → sum_by k (stock_of (files ++ g ∷ []) drafts) ≡ sum_by k (row_stock file.id new ∷ stock_of (files ++ file ∷ []) drafts)
    sums k = omega (arith, total k (files ++ g ∷ []) drafts, total k (files ++ file ∷ []) drafts, sum_by_cons k (row_stock file.id new) (stock_of (files ++ file ∷ []) drafts), sum_by_push (λ (f : File). sum_by k (file_stock f)) files g, sum_by_push (λ (f : File). sum_by k (file_stock f)) files file, sum_by-map k (row_stock file.id) (file.log.rows ++ new ∷ []), sum_by-map k (row_stock file.id) file.log.rows, sum_by_push (λ (row : LogRow). k (row_stock file.id row)) file.log.rows new)

  pub versions_with_row : (t : Store) → flat_map (rows_in t) (files ++ g ∷ []) ≡ flat_map (rows_in t) (files ++ file ∷ []) ++ row_in t file.id new ∷ []
  versions_with_row t = by files where
    by : (fs : List File) → flat_map (rows_in t) (fs ++ g ∷ []) ≡ flat_map (rows_in t) (fs ++ file ∷ []) ++ row_in t file.id new ∷ []
    by [] = rw (append_nil (rows_in t g), append_nil (rows_in t file)) (map-append (row_in t file.id) file.log.rows (new ∷ []))
    by (f ∷ fs) = rw (by fs) (sym (append_assoc (rows_in t f) (flat_map (rows_in t) (fs ++ file ∷ [])) (row_in t file.id new ∷ [])))

pub stock_with_draft : (files : List File) (drafts : List Draft) (d : Draft) → SameStock (stock_of files (drafts ++ d ∷ [])) (draft_stock d ∷ stock_of files drafts)
stock_with_draft files drafts d = record { sums = λ k. omega (arith, total k files (drafts ++ d ∷ []), total k files drafts, sum_by_cons k (draft_stock d) (stock_of files drafts), sum_by_push (λ x. k (draft_stock x)) drafts d) }

module _ (s : Store) (placed : PlacedBlocks) (files : List File) (file : File) (drafts : List Draft) (grows : Grows s placed files file drafts) where
  abbrev ts : List Tagged
  ts = stock_of (files ++ file ∷ []) drafts

  own_kept : IsFileKept file
  own_kept = all-mid IsFileKept files file [] grows.keeps.files_kept

  -- ---- the map of new cells

  module _ (last : ℕ) (cells : List Cell) (beside : IsContentBeside (seen s files file drafts).held file.id last cells) where
    agreed : AllByRecursion (ShowsAgreed s file.id cells) ts
    agreed = stock_agreed s file.id cells (files ++ file ∷ []) drafts beside.agrees

    written : AllByRecursion (λ (cell : Cell). cell.writer < last + 1) cells
    written = all-weaker (λ (cell : Cell). cell.writer ≤ last) (λ (cell : Cell). cell.writer < last + 1) cells (λ cell h. omega (arith, h)) beside.written

    pub blocks_there : AllByRecursion (λ (new : NewSlot). HasBlock s.blocks new.bytes) (slots_with placed 0 cells)
    blocks_there = there grows.laws s ts placed file.id grows.finds cells agreed grows.keeps.laws grows.keeps.stocked (last + 1) written

    pub same_bytes : HaveBytesOf s placed 0 cells
    same_bytes = have_bytes grows.laws s ts placed file.id grows.finds cells agreed

    module _ (t : Store) (count : ℕ) (now : Layout) (made : IsMade s t count (slots_with placed 0 cells) now) where
      pub new_lives : LivesIn t now
      new_lives = lives grows.laws s ts placed file.id grows.finds cells agreed grows.keeps.laws grows.keeps.stocked (last + 1) written t count now made

      pub new_shows : shown t now ≡ cells
      new_shows = shows grows.laws s ts placed file.id grows.finds cells agreed grows.keeps.laws grows.keeps.stocked (last + 1) written t count now made

      abbrev tag : Tagged
      tag = record { file = file.id; below = last + 1; layout = now }

      pub new_stays : (us : List Tagged) → SameStock us (tag ∷ ts) → Stays s t ts us
      new_stays = stays grows.laws s ts placed file.id grows.finds cells agreed grows.keeps.laws grows.keeps.stocked (last + 1) written t count now made

      pub new_finds : (q : PlacedBlocks) (us : List Tagged) → SameStock us (tag ∷ ts) → ((other : ℕ) (names : List Named) → Finds placed other names → Finds q other (names_of t other now ++ names)) → Finds q file.id (names_in t us)
      new_finds = finds_more grows.laws s ts placed file.id grows.finds cells agreed grows.keeps.laws grows.keeps.stocked (last + 1) written t count now made

      held_same : held_in t (files ++ file ∷ []) (unopened drafts) ≡ held_in s (files ++ file ∷ []) (unopened drafts)
      held_same = held_stays s t (files ++ file ∷ []) (unopened drafts) (new_stays (tag ∷ ts) (record { sums = λ f. refl })).shows

      pub versions_on : flat_map (rows_in t) (files ++ file ∷ []) ≡ flat_map (rows_in s) (files ++ file ∷ [])
      versions_on = ap (λ (h : Held). h.versions) held_same

      pub drafts_on : map (draft_in t) drafts ≡ map (draft_in s) drafts
      drafts_on = ap (λ (h : Held). h.drafts) held_same

  -- ---- a version

  module _ (row : VersionRow) (next : IsNextVersion (seen s files file drafts) row) (cells : Layout) where
    precedes : (r : LogRow) → formed.ArePlaced (row_in s file.id r) row → Precedes r (logged row cells)
    precedes r h =
        let number : r.number < row.number = grind (arith, nat_tests, h.after, next.own) in
        let e = h.ended (sym next.own) in
        record { number = number; ended = rw e.1 e.2 }

    pub all_precede : AllByRecursion (λ r. Precedes r (logged row cells)) file.log.rows
    all_precede =
        let own = all-mid (λ (f : File). AllByRecursion (λ earlier. formed.ArePlaced earlier row) (rows_in s f)) files file [] (flat_map-all (rows_in s) (λ earlier. formed.ArePlaced earlier row) (files ++ file ∷ []) next.placed) in
        all-weaker (λ r. formed.ArePlaced (row_in s file.id r) row) (λ r. Precedes r (logged row cells)) file.log.rows precedes (map-all (row_in s file.id) (λ earlier. formed.ArePlaced earlier row) file.log.rows own)

    its_row : IsRowOf file.next (logged row cells)
    its_row = record { first = next.first; number = next.numbered; open_end = next.open_end }

    g_kept : (spare : ℕ) → IsFileKept (with_row file (logged row cells) spare)
    g_kept spare = record {
      next = own_kept.next;
      rows = all-push (IsRowOf file.next) file.log.rows (logged row cells) own_kept.rows its_row;
      order = record {
        ends = all-push EndsInTime file.log.rows (logged row cells) own_kept.order.ends next.ended;
        order = later-push Precedes file.log.rows (logged row cells) own_kept.order.order all_precede;
      };
    }

    module _ (t : Store) (count : ℕ) (made : IsMade s t count (slots_with placed 0 row.cells) cells) (q : PlacedBlocks) (more : (other : ℕ) (names : List Named) → Finds placed other names → Finds q other (names_of t other cells ++ names)) where
      drafts_stay : (spare : ℕ) → AllByRecursion (IsDraftKept (files ++ with_row file (logged row cells) spare ∷ [])) drafts
      drafts_stay spare = all-weaker (IsDraftKept (files ++ file ∷ [])) (IsDraftKept (files ++ with_row file (logged row cells) spare ∷ [])) drafts (λ d h. record { there = h.there; number = rw (rows_same files file (logged row cells) spare) h.number }) grows.keeps.drafts_kept

      with_row_grows : (spare : ℕ) → Grows t q files (with_row file (logged row cells) spare) drafts
      with_row_grows spare =
          let g : File = with_row file (logged row cells) spare in
          let same = stock_with_row files file (logged row cells) spare drafts in
          record {
            laws = grows.laws;
            keeps = record {
              laws = grows.keeps.laws;
              rise = later-exchange (λ (x y : File). x.id < y.id) files file g [] (λ z h. h) (λ zs all. all) grows.keeps.rise;
              stocked = (new_stays row.number row.cells next.beside t count cells made (stock_of (files ++ g ∷ []) drafts) same).stocked;
              files_kept = all-exchange IsFileKept files file g [] (g_kept spare) grows.keeps.files_kept;
              drafts_kept = drafts_stay spare;
            };
            finds = new_finds row.number row.cells next.beside t count cells made q (stock_of (files ++ g ∷ []) drafts) same more;
          }

      its_row_shown : row_in t file.id (logged row cells) ≡ row
      its_row_shown = rw (new_shows row.number row.cells next.beside t count cells made, ← next.own) refl

      with_row_seen : (spare : ℕ) → seen t files (with_row file (logged row cells) spare) drafts ≡ with_versions (seen s files file drafts) (row ∷ [])
      with_row_seen spare = rw (rows_same files file (logged row cells) spare, versions_with_row files file (logged row cells) spare t, its_row_shown, versions_on row.number row.cells next.beside t count cells made, drafts_on row.number row.cells next.beside t count cells made) refl

      module _ (g : File) (rows : HasRows file g (file.log.rows ++ logged row cells ∷ [])) where
        pub version_grows : Grows t q files g drafts
        version_grows = rw (is_with_row file g (logged row cells) rows) (with_row_grows g.log.spare)

        pub version_seen : seen t files g drafts ≡ with_versions (seen s files file drafts) (row ∷ [])
        version_seen = rw (is_with_row file g (logged row cells) rows) (with_row_seen g.log.spare)

  -- ---- a draft

  module _ (row : DraftRow) (next : IsNextDraft (seen s files file drafts) row) (cells : Layout) where
    abbrev new : Draft
    new = record (new_draft file.id file.next row.opened cells) { changed = row.changed }

    draft_kept : IsDraftKept (files ++ file ∷ []) new
    draft_kept = record { there = own_kept.next; number = sym (last_next files file grows.keeps.rise) }

    module _ (t : Store) (count : ℕ) (made : IsMade s t count (slots_with placed 0 row.cells) cells) (q : PlacedBlocks) (more : (other : ℕ) (names : List Named) → Finds placed other names → Finds q other (names_of t other cells ++ names)) where
      pub draft_grows : Grows t q files file (drafts ++ new ∷ [])
      draft_grows =
          let same = stock_with_draft (files ++ file ∷ []) drafts new in
          record {
            laws = grows.laws;
            keeps = record {
              laws = grows.keeps.laws;
              rise = grows.keeps.rise;
              stocked = (new_stays file.next row.cells next.beside t count cells made (stock_of (files ++ file ∷ []) (drafts ++ new ∷ [])) same).stocked;
              files_kept = grows.keeps.files_kept;
              drafts_kept = all-push (IsDraftKept (files ++ file ∷ [])) drafts new grows.keeps.drafts_kept draft_kept;
            };
            finds = new_finds file.next row.cells next.beside t count cells made q (stock_of (files ++ file ∷ []) (drafts ++ new ∷ [])) same more;
          }

      its_draft_shown : draft_in t new ≡ row
      its_draft_shown = rw (new_shows file.next row.cells next.beside t count cells made, ← next.own) refl

      pub draft_seen : seen t files file (drafts ++ new ∷ []) ≡ with_drafts (seen s files file drafts) (row ∷ [])
      draft_seen = rw (map-append (draft_in t) drafts (new ∷ []), its_draft_shown, versions_on file.next row.cells next.beside t count cells made, drafts_on file.next row.cells next.beside t count cells made) refl
