-- The next file begins, without a row, and handles come to the drafts at the end.
use Rattle.ele_files.proofs.Words.{AllByRecursion, AreOrderly, Draft, DraftRow, File, HandleRow, IsDraftKept, IsFileKept, Keeps, List, LogRow, None, Option, Some, Store, Tagged, [], all-any, all-append, all-flat_map, all_found, all-map, all-push, all-weaker, arith, draft_in, draft_stock, file_row, file_stock, find, flat_map, found_passes, is_file, later-push, map, map-all, map-append, nat_tests, next_of, next_of-push, option_map_or, refl, row_stock, stock_of, subst, sym, true, ℕ, ◌++◌, ◌<◌, ◌∙◌, ◌∷◌, ◌≡◌, ◌≢◌, ◌≤◌, list_any, is_writer, Reads, FileRow}
use Rattle.ele_blocks.specs.Placed.{Finds}
use Rattle.ele_blocks.specs.PlaceLaws.{PlaceLaws}
use Rattle.ele_blocks.specs.declared.placed.PlacedBlocks.{PlacedBlocks}
use Rattle.ele_files.proofs.Rows.{any_draft}
use Rattle.ele_files.proofs.Stock.{file_added}
use Rattle.ele_files.specs.Adding.{AreHandled}
use Rattle.ele_files.specs.Making.{Grows, unopened}
use Rattle.ele_lists.proofs.Alls.{map-later}
use Rattle.ele_model.specs.WellFormed as formed
use Rattle.ele_model.specs.declared.rows.Reads.TheVariants as reads
use Rattle.ele_sessions.specs.Orderly as sessions

-- the number of a file that is there is one of the numbers
pub next_has : (P : ℕ → Type 0) (rows : List FileRow) (id : ℕ) → AllByRecursion (λ (row : FileRow). P row.id) rows → 0 < next_of rows id → P id
next_has P rows id all there = by (find (is_file id) rows) refl there where
  by : (o : Option FileRow) → find (is_file id) rows ≡ o → 0 < option_map_or (λ (row : FileRow). row.next) o 0 → P id
  by None e h = absurd (omega (arith, h))
  by (Some row) e h =
      let passes = found_passes (is_file id) rows row e in
      let same : row.id ≡ id = grind (arith, nat_tests, passes) in
      subst P same (all_found (is_file id) (λ (row : FileRow). P row.id) rows row e all)

module _ (s : Store) (files : List File) (drafts : List Draft) (kept : Keeps s files (unopened drafts)) (file : File) (none : file.log.rows ≡ []) (next : 1 ≤ file.next) (below : AllByRecursion (λ (row : FileRow). row.id < file.id) (map file_row files)) where
  before : AllByRecursion (λ (f : File). f.id < file.id) files
  before = map-all file_row (λ (row : FileRow). row.id < file.id) files below

  -- all maps are of other files
  other_files : AllByRecursion (λ (t : Tagged). t.file ≢ file.id) (stock_of files drafts)
  other_files =
      all-append (λ (t : Tagged). t.file ≢ file.id) (flat_map file_stock files) (map draft_stock drafts)
      (all-flat_map file_stock (λ (t : Tagged). t.file ≢ file.id) (λ (f : File). f.id < file.id) files (λ f lt. all-map (row_stock f.id) (λ (t : Tagged). t.file ≢ file.id) f.log.rows (all-any (λ (row : LogRow). f.id ≢ file.id) f.log.rows (λ row same. omega (arith, lt, same)))) before)
      (all-map draft_stock (λ (t : Tagged). t.file ≢ file.id) drafts (all-weaker (IsDraftKept files) (λ (d : Draft). d.file ≢ file.id) drafts (λ d h same.
      let lt : d.file < file.id = next_has (λ id. id < file.id) (map file_row files) d.file below (omega (arith, h.there, h.number)) in
      omega (arith, lt, same)) kept.drafts_kept))

  drafts_still : AllByRecursion (IsDraftKept (files ++ file ∷ [])) drafts
  drafts_still = all-weaker (IsDraftKept files) (IsDraftKept (files ++ file ∷ [])) drafts (λ d h. record {
    there = h.there;
    number = rw (map-append file_row files (file ∷ [])) (h.number ∙ sym (next_of-push (map file_row files) (file_row file) d.file (omega (arith, h.there, h.number))));
  }) kept.drafts_kept

  pub begun : PlaceLaws → (placed : PlacedBlocks) → ((other : ℕ) → Finds placed other []) → Grows s placed files file drafts
  begun laws placed fresh = record {
    laws = laws;
    keeps = record {
      laws = kept.laws;
      rise = later-push (λ (x y : File). x.id < y.id) files file kept.rise before;
      stocked = kept.laws.same s (stock_of files drafts) (stock_of (files ++ file ∷ []) drafts) (file_added files drafts file none) kept.stocked;
      files_kept = all-push IsFileKept files file kept.files_kept (record { next = next; rows = rw none tt; order = rw none (record { ends = tt; order = tt }) });
      drafts_kept = drafts_still;
    };
    finds = laws.ordered s (stock_of files drafts) (stock_of (files ++ file ∷ []) drafts) placed file.id (file_added files drafts file none) (laws.others s (stock_of files drafts) placed file.id other_files (fresh file.id));
  }

module _ (s : Store) (drafts : List Draft) (handles : List HandleRow) (opened : ℕ) (handled : AreHandled (map (draft_in s) drafts) handles opened) where
  readable : (what : Reads) → formed.IsReadable (map (draft_in s) drafts) what → sessions.IsReadable drafts what
  readable (reads.Draft file) there = sym (any_draft s file drafts) ∙ there
  readable (reads.Version file number) there = tt

  pub orderly : AreOrderly (record { drafts = drafts; handles = handles; opened = opened })
  orderly = record {
    drafts_rise = map-later (draft_in s) (λ (x y : DraftRow). x.file < y.file) drafts handled.rise;
    handles_rise = handled.each.placed;
    opened = all-weaker (formed.IsHandle opened (map (draft_in s) drafts)) (λ (handle : HandleRow). handle.number ≤ opened) handles (λ handle h. h.given) handled.each.each;
    drafted = all-weaker (formed.IsHandle opened (map (draft_in s) drafts)) (λ (handle : HandleRow). sessions.IsReadable drafts handle.reads) handles (λ handle h. readable handle.reads h.readable) handled.each.each;
    written = map-all (draft_in s) (λ (draft : DraftRow). list_any (is_writer draft.file) handles ≡ true) drafts handled.written;
  }

  pub numbered : AllByRecursion (λ (handle : HandleRow). 1 ≤ handle.number) handles
  numbered = all-weaker (formed.IsHandle opened (map (draft_in s) drafts)) (λ (handle : HandleRow). 1 ≤ handle.number) handles (λ handle h. h.numbered) handled.each.each
