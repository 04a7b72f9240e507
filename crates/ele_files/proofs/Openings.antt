-- A handle that writes a file is opened, and with the file's first handle a draft.
use Rattle.ele_files.proofs.Words.{Held, AllSessions, Bool, Draft, File, IsDraftKept, IsFileKept, IsRowOf, Keeps, Layout, List, LivesIn, LogRow, MatchBool, Moves, None, OnErr, OnOk, Opens, Option, Result, Some, Stays, Store, Tagged, [], all_found, all-insert_before, ap, arith, draft_in, draft_stock, empty_layout, false, file_row, find, first_draft, flat_map, held_in, insert_before, insert_before-map, is_draft, is_draft_after, is_id, has_number, is_version, length, length-append, length-map, list_any, map, nat_tests, new_draft, next_of, opened_by, option_map_or, refl, row_stock, rows_in, shown, stock_of, sum_by, sym, true, ℕ, ◌+◌, ◌-◌, ◌∙◌, ◌∷◌, ◌≡◌}
use Rattle.ele_files.proofs.Stock.{row_copied, row_same, IsSeen, held_stays, draft_begun, row_lives}
use Rattle.ele_files.proofs.Rows.{its_id, next_found, version_of, any_draft}
use Rattle.ele_sessions.specs.Opening as opening
use Rattle.ele_model.specs.World as world

-- the map of the version before the next one, or that of no bytes
abbrev pub cells_of : Option LogRow → Layout
cells_of row = option_map_or (λ row. row.cells) row empty_layout

abbrev pub last_row : File → Option LogRow
last_row f = find (has_number (f.next - 1)) f.log.rows

abbrev pub first_map : File → Layout
first_map f = cells_of (last_row f)

-- as many maps as versions and drafts are seen
pub maps_seen : (s : Store) (files : List File) (drafts : List Draft) → length (stock_of files drafts) ≡ length (flat_map (rows_in s) files) + length (map (draft_in s) drafts)
maps_seen s [] drafts = omega (arith, length-map drafts draft_stock, length-map drafts (draft_in s))
maps_seen s (f ∷ files) drafts = grind (arith, nat_tests, length-append, length-map, maps_seen s files drafts)

module _ (s : Store) (files : List File) (a : AllSessions) (kept : Keeps s files a) (file : ℕ) (f : File) (found : find (is_id file) files ≡ Some f) where
  file_kept : IsFileKept f
  file_kept = all_found (is_id file) IsFileKept files f found kept.files_kept

  its_next : next_of (map file_row files) file ≡ f.next
  its_next = next_found files file (Some f) found

  pub first_lives : LivesIn s (first_map f)
  first_lives = of_row (last_row f) refl where
    of_row : (o : Option LogRow) → last_row f ≡ o → LivesIn s (cells_of o)
    of_row x0 e = grind (arith, nat_tests, row_lives)

  -- what a new draft begins with is what the map shows
  first_seen : option_map_or (λ row. row.cells) (find (is_version file (next_of (map file_row files) file - 1)) (flat_map (rows_in s) files)) [] ≡ shown s (first_map f)
  first_seen = rw (its_next, version_of s file (f.next - 1) files kept.rise f found) (grind arith)

  module _ (t : Store) (b : AllSessions) (at : ℕ) where
    abbrev new : Draft
    new = new_draft file f.next at (first_map f)

    new_kept : IsDraftKept files new
    new_kept = record { there = file_kept.next; number = sym its_next }

    -- no draft is there: its map is a copy of the version's, or of no bytes
    module _ (moves : Moves s t [] (first_map f ∷ [])) where
      record Begins : Type 0 where
        pub stays : Stays s t (stock_of files a.drafts) (stock_of files (insert_before (is_draft_after file) new a.drafts))
        pub same : shown t (first_map f) ≡ shown s (first_map f)

      begins : Begins
      begins = of_row (last_row f) refl where
        old : List Tagged
        old = stock_of files a.drafts

        us : List Tagged
        us = stock_of files (insert_before (is_draft_after file) new a.drafts)

        of_row : (o : Option LogRow) → last_row f ≡ o → Begins
        of_row None e =
            let none : first_map f ≡ empty_layout = ap cells_of e in
            let tag : Tagged = record { file = file; below = f.next + 1; layout = empty_layout } in
            let came = kept.laws.copied s t (tag ∷ old) tag old (f.next + 1) (tag ∷ tag ∷ old) (kept.laws.empty s file (f.next + 1) old kept.stocked) (record { sums = λ k. refl }) (omega arith) (rw none at moves) (record { sums = λ k. refl }) in
            record {
              stays = record {
                stocked = kept.laws.same t (tag ∷ old) us (record { sums = λ k. ap (λ m. sum_by k (record { file = file; below = f.next + 1; layout = m } ∷ old)) (sym none) ∙ sym ((draft_begun files a.drafts (is_draft_after file) new).sums k) }) (kept.laws.no_empty t file (f.next + 1) (tag ∷ old) came.stocked);
                shows = came.shows.1;
              };
              same = rw none came.shows.0.same;
            }
        of_row (Some row) e =
            let its : first_map f ≡ row.cells = ap cells_of e in
            let is : LogRow → Bool = has_number (f.next - 1) in
            let below = (all_found is (IsRowOf f.next) f.log.rows row e file_kept.rows).number in
            let id : f.id ≡ file = its_id files file f found in
            let same_tag : record (row_stock f.id row) { below = f.next + 1 } ≡ draft_stock new = rw (id, its) refl in
            let came = row_copied s t files a kept file f found is row e (rw its at moves) (f.next + 1) (omega (arith, below)) us (rw same_tag (draft_begun files a.drafts (is_draft_after file) new)) in
            record { stays = came; same = rw its (row_same s t files a kept file f found is row e came.shows) }

      new_seen : draft_in t new ≡ first_draft (held_in s files a) file at
      new_seen = rw (begins.same, first_seen) refl

      drafts_on : map (draft_in t) (insert_before (is_draft_after file) new a.drafts) ≡ insert_before (world.is_draft_after file) (first_draft (held_in s files a) file at) (map (draft_in s) a.drafts)
      drafts_on = sym (insert_before-map (draft_in t) (world.is_draft_after file) (is_draft_after file) (λ x. refl) new a.drafts) ∙ rw (new_seen, ap (λ (h : Held). h.drafts) (held_stays s t files a begins.stays.shows)) refl

      versions_on : flat_map (rows_in t) files ≡ flat_map (rows_in s) files
      versions_on = ap (λ (h : Held). h.versions) (held_stays s t files a begins.stays.shows)

    pub opened : (there : Bool) → list_any (is_draft file) a.drafts ≡ there → MatchBool there (t ≡ s) (Moves s t [] (first_map f ∷ [])) → IsSeen t files (opening.opened_by a new) (opened_by (held_in s files a) file at)
    opened true e h = grind (arith, nat_tests, any_draft)
    opened false e h = record {
      keeps = record {
        laws = kept.laws;
        rise = kept.rise;
        stocked = rw e (begins h).stays.stocked;
        files_kept = kept.files_kept;
        drafts_kept = rw e (all-insert_before (is_draft_after file) (IsDraftKept files) new a.drafts new_kept kept.drafts_kept);
      };
      shows = rw (any_draft s file a.drafts, e, versions_on h, drafts_on h) refl;
    }

    -- whatever the call answers
    pub opens : {T E : Type 0} (m : Layout) → m ≡ first_map f → (r : Result T E) → OnOk r (b ≡ opening.opened_by a (new_draft file f.next at m)) → OnOk r (Opens s t a.drafts file m) → OnErr r (b ≡ a) → OnErr r (t ≡ s)
        → Keeps t files b × OnOk r (held_in t files b ≡ opened_by (held_in s files a) file at)
    opens m is x2 done moved left store = grind (arith, nat_tests, opened)
