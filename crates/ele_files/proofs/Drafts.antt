-- A draft goes, or gets another map by a write or a truncate.
use Rattle.ele_files.proofs.Words.{AllByRecursion, AllLater, AllSessions, AreOrderly, Bool, Draft, DraftRow, File, Held, IsDraftKept, IsEarlier, IsFileKept, IsStocked, IsResized, IsRowOf, Keeps, Layout, List, MatchBool, Moves, None, OnErr, OnOk, Option, Renews, Result, RewritesDraft, Rises, ShowsSame, Some, Stays, Store, [], all-append, all-both, all-flat_map, all_found, all-left, all-map, all-remove_first, all-right, all-update_first, all-weaker, ap, arith, changed_by, cond, content_of, draft_in, draft_stock, eqb, false, false≢true, file_row, file_stock, find, fitted_by, flat_map, found_passes, has_length, held_in, is_draft, is_file, length, map, nat_tests, next_of, option_map, option_map_or, refl, remove_first, remove_first-map, rewritten_by, row_stock, shown, stock_of, sym, true, update_first, update_first_same, ℕ, ◌<◌, ◌∙◌, ◌∷◌, ◌≡◌, ◌≢◌, Redrafts, IsWritten, draft_of, changed_at, WriteDraft, TruncateDraft}
use Rattle.ele_files.proofs.Stock.{IsSeen, drafts_same, held_stays, versions_same, draft_apart, draft_changed, draft_lives}
use Rattle.ele_files.proofs.Rows.{draft_found}
use Rattle.ele_model.specs.World as world
use Rattle.ele_sessions.specs.Changes as session

-- the other drafts are of other files
apart_behind : (file : ℕ) (d : Draft) (drafts : List Draft) → d.file ≡ file → AllByRecursion (λ (x : Draft). d.file < x.file) drafts → AllByRecursion (λ (x : Draft). x.file ≢ file) drafts
apart_behind file d drafts is later = all-weaker (λ (x : Draft). d.file < x.file) (λ (x : Draft). x.file ≢ file) drafts (λ x lt same. omega (arith, lt, is, same)) later

pub drafts_apart : (file : ℕ) (drafts : List Draft) → Rises (λ (d : Draft). d.file) drafts → AllByRecursion (λ (d : Draft). d.file ≢ file) (remove_first (is_draft file) drafts)
drafts_apart file [] rise = tt
drafts_apart file (x ∷ drafts) rise = grind (arith, nat_tests, apart_behind file x drafts, rise.0, drafts_apart file drafts rise.1)

pub its_file : (file : ℕ) (drafts : List Draft) (d : Draft) → find (is_draft file) drafts ≡ Some d → d.file ≡ file
its_file file drafts d found = let e = found_passes (is_draft file) drafts d found in grind (arith, nat_tests)

-- a file's next number is the one that its rows are before
next_each : (files : List File) (file : ℕ) → AllLater (λ x y. x.id < y.id) files → AllByRecursion (λ f. f.id ≡ file → f.next ≡ next_of (map file_row files) file) files
next_each [] file later = tt
next_each (f ∷ files) file later = elim (eqb f.id file) as (λ b. eqb f.id file ≡ b → AllByRecursion (λ g. g.id ≡ file → g.next ≡ option_map_or (λ row. row.next) (cond b (Some (file_row f)) (find (is_file file) (map file_row files))) 0) (f ∷ files)) [
  | true ↦ λ e. (λ _. refl, all-weaker (λ g. f.id < g.id) (λ g. g.id ≡ file → g.next ≡ f.next) files (λ g lt is. absurd (let same : f.id ≡ file = grind (arith, nat_tests) in omega (arith, lt, is, same))) later.0)
  | false ↦ λ e. (λ is. absurd (let same : eqb f.id file ≡ true = grind (arith, nat_tests) in cc), next_each files file later.1)
] refl

-- beside its draft, no map of a file is by a writer as late as its next version
file_earlier : (file next : ℕ) (f : File) → IsFileKept f → (f.id ≡ file → f.next ≡ next) → AllByRecursion (IsEarlier file next) (file_stock f)
file_earlier file next f is same_next = all-map (row_stock f.id) (IsEarlier file next) f.log.rows (all-weaker (IsRowOf f.next) (λ row. IsEarlier file next (row_stock f.id row)) f.log.rows (λ row h. record { earlier = λ same. omega (arith, h.number, same_next same) }) is.rows)

pub all_earlier : (files : List File) (drafts : List Draft) (file next : ℕ) → next ≡ next_of (map file_row files) file → AllLater (λ x y. x.id < y.id) files → AllByRecursion IsFileKept files → AllByRecursion (λ (d : Draft). d.file ≢ file) drafts → AllByRecursion (IsEarlier file next) (stock_of files drafts)
all_earlier files drafts file next is rise kept others = all-append (IsEarlier file next) (flat_map file_stock files) (map draft_stock drafts) (all-flat_map file_stock (IsEarlier file next) (λ f. IsFileKept f × (f.id ≡ file → f.next ≡ next)) files (λ f h. file_earlier file next f h.0 h.1) (all-both IsFileKept (λ f. f.id ≡ file → f.next ≡ next) files kept (all-weaker (λ f. f.id ≡ file → f.next ≡ next_of (map file_row files) file) (λ f. f.id ≡ file → f.next ≡ next) files (λ f h same. h same ∙ sym is) (next_each files file rise)))) (all-map draft_stock (IsEarlier file next) drafts (all-weaker (λ (d : Draft). d.file ≢ file) (λ (d : Draft). IsEarlier file next (draft_stock d)) drafts (λ d other. record { earlier = λ same. absurd (other same) }) others))

module _ (s t : Store) (files : List File) (a b : AllSessions) (kept : Keeps s files a) (file : ℕ) (d : Draft) (found : find (is_draft file) a.drafts ≡ Some d) where
  abbrev pub fewer : List Draft
  fewer = remove_first (is_draft file) a.drafts

  -- it goes, and its map the store
  module _ (moves : Moves s t (d.layout ∷ []) []) (made : b.drafts ≡ fewer) where
    goes : Stays s t (stock_of files fewer) (stock_of files fewer)
    goes = kept.laws.gone s t (stock_of files a.drafts) (draft_stock d) (stock_of files fewer) kept.stocked (draft_apart files a.drafts (is_draft file) d found) moves

    pub dropped : IsSeen t files b (record (held_in s files b) { drafts = remove_first (world.is_draft file) (map (draft_in s) a.drafts) })
    dropped = record {
      keeps =
          let stocked : IsStocked t (stock_of files b.drafts) = rw made goes.stocked in
          let drafts_kept : AllByRecursion (IsDraftKept files) b.drafts = rw made (all-remove_first (is_draft file) (IsDraftKept files) a.drafts kept.drafts_kept) in
          assumption (stocked, drafts_kept);
      shows = held_stays s t files b (rw made goes.shows) ∙ rw (made, remove_first-map (draft_in s) (world.is_draft file) (is_draft file) (λ x. refl) a.drafts) refl;
    }

  -- it gets another map
  module _ (now : Layout) (renewed : ℕ → Bool) (moves : Moves s t (d.layout ∷ []) (now ∷ [])) (renews : Renews s t d.number renewed d.layout now) (rise : Rises (λ (x : Draft). x.file) a.drafts) where
    d_kept : IsDraftKept files d
    d_kept = all_found (is_draft file) (IsDraftKept files) a.drafts d found kept.drafts_kept

    pub its_number : d.number ≡ next_of (map file_row files) file
    its_number = d_kept.number ∙ ap (next_of (map file_row files)) (its_file file a.drafts d found)

    others_earlier : AllByRecursion (IsEarlier d.file d.number) (stock_of files fewer)
    others_earlier = let is = its_file file a.drafts d found in all_earlier files fewer d.file d.number d_kept.number kept.rise kept.files_kept (rw is (drafts_apart file a.drafts rise))

    changes : Stays s t (stock_of files fewer) (stock_of files (update_first (is_draft file) (rewritten_by now) a.drafts))
    changes = kept.laws.rewritten s t (stock_of files a.drafts) (draft_stock d) (stock_of files fewer) d.number renewed now (stock_of files (update_first (is_draft file) (rewritten_by now) a.drafts)) kept.stocked (draft_apart files a.drafts (is_draft file) d found) refl others_earlier moves renews (draft_changed files a.drafts (is_draft file) (rewritten_by now) d found)

    pub rewritten : (change : DraftRow → DraftRow) → draft_in t (rewritten_by now d) ≡ change (draft_in s d) → b ≡ record a { drafts = update_first (is_draft file) (rewritten_by now) a.drafts } → IsSeen t files b (record (held_in s files a) { drafts = update_first (world.is_draft file) change (map (draft_in s) a.drafts) })
    rewritten change changed made = rw made (record {
      keeps = assumption (changes.stocked, all-update_first (is_draft file) (IsDraftKept files) (IsDraftKept files) (rewritten_by now) a.drafts (λ x h. record { there = h.there; number = h.number }) (λ x h. h) kept.drafts_kept);
      shows = rw (versions_same s t files (all-left (ShowsSame s t) (flat_map file_stock files) (map draft_stock fewer) changes.shows), seen a.drafts found (all-right (ShowsSame s t) (flat_map file_stock files) (map draft_stock fewer) changes.shows)) refl;
    }) where
      seen : (ds : List Draft) → find (is_draft file) ds ≡ Some d → AllByRecursion (ShowsSame s t) (map draft_stock (remove_first (is_draft file) ds)) → map (draft_in t) (update_first (is_draft file) (rewritten_by now) ds) ≡ update_first (world.is_draft file) change (map (draft_in s) ds)
      seen [] h all = absurd cc
      seen (x ∷ ds) h all = grind (arith, nat_tests, changed, drafts_same s t, seen ds)

-- ---- a write or a truncate of a file's draft

module _ (s : Store) (files : List File) (a : AllSessions) (kept : Keeps s files a) where
  abbrev rows : Held
  rows = held_in s files a

  -- a draft shows as many bytes as its map has
  pub length_is : (file size : ℕ) (d : Draft) → find (is_draft file) a.drafts ≡ Some d → eqb (length (content_of (shown s d.layout))) size ≡ eqb d.layout.size size
  length_is file size d found = ap (λ n. eqb n size) (kept.laws.long s d.layout (draft_lives s files a kept file d found))

  module _ (t : Store) (b : AllSessions) (orderly : AreOrderly a) (file : ℕ) where
    stays : (h : Held) → rows ≡ h → session.Stays s t a b → IsSeen t files b h
    stays h same left = rw (left.store, left.sessions) (record { keeps = kept; shows = same })

    -- a new map for a draft, which shows as the changed row does
    record IsNewMap (change : DraftRow → DraftRow) (was : Draft) (now : Layout) : Type 0 where
      pub moves : Moves s t (was.layout ∷ []) (now ∷ [])
      pub renewed : ℕ → Bool
      pub renews : Renews s t was.number renewed was.layout now
      pub changed : draft_in t (rewritten_by now was) ≡ change (draft_in s was)

    abbrev changed_rows : (ℕ → DraftRow → DraftRow) → Held
    changed_rows change = record rows { drafts = update_first (world.is_draft file) (change (next_of (map file_row files) file)) rows.drafts }

    -- the file's draft gets it
    rewrites : (Made : Draft → Layout → Type 0) (change : ℕ → DraftRow → DraftRow) → ((r : RewritesDraft a.drafts b.drafts file Made) → IsNewMap (change r.was.number) r.was r.layout) → Redrafts a b file Made → IsSeen t files b (changed_rows change)
    rewrites Made change new h =
        let r = h.1 in
        let map = new r in
        let number = its_number s t files a b kept file r.was r.found r.layout map.renewed map.moves map.renews orderly.drafts_rise in
        rw (← number) (rewritten s t files a b kept file r.was r.found r.layout map.renewed map.moves map.renews orderly.drafts_rise (change r.was.number) map.changed (h.0 ∙ ap (λ ds. record a { drafts = ds }) r.made))

    written : (offset : ℕ) (bytes : List ℕ) → Redrafts a b file (λ was. IsWritten s t was.number offset bytes was.layout) → IsSeen t files b (changed_at rows 0 (WriteDraft file offset bytes ∷ []))
    written offset bytes h = rewrites _ (λ number. changed_by number offset bytes) (λ r. record { moves = r.how.moves; renewed = _; renews = r.how.renews; changed = rw r.how.cells refl }) h

    -- a draft of that length is as it was
    fits_already : (size : ℕ) → has_length size (draft_of a file) ≡ true → rows ≡ changed_at rows 0 (TruncateDraft file size ∷ [])
    fits_already size e = by (find (is_draft file) a.drafts) refl e where
      by : (d : Option Draft) → find (is_draft file) a.drafts ≡ d → has_length size d ≡ true → rows ≡ changed_at rows 0 (TruncateDraft file size ∷ [])
      by None found e = absurd (false≢true e)
      by (Some d) found e =
          let same = length_is file size d found ∙ e in
          sym (ap (λ drafts. record rows { drafts = drafts }) (update_first_same (world.is_draft file) (fitted_by (next_of (map file_row files) file) size) rows.drafts (draft_in s d) (draft_found s file a.drafts ∙ ap (option_map (draft_in s)) found) (rw same refl)))

    truncated : (size : ℕ) (same : Bool) → has_length size (draft_of a file) ≡ same → MatchBool same (session.Stays s t a b) (Redrafts a b file (λ was. IsResized s t was.number size was.layout)) → IsSeen t files b (changed_at rows 0 (TruncateDraft file size ∷ []))
    truncated size true e h = stays _ (fits_already size e) h
    truncated size false e h = rewrites _ (λ number. fitted_by number size)
        (λ r.
        let long : eqb r.was.layout.size size ≡ false = rw r.found at e in
        let other = length_is file size r.was r.found ∙ long in
        record { moves = r.how.moves; renewed = _; renews = r.how.renews; changed = rw (other, r.how.cells) refl }) h

    -- whatever the call answers
    module _ {T E : Type 0} where
      answered : (r : Result T E) (P : Type 0) (h : Held) → (P → IsSeen t files b h) → OnOk r P → OnErr r (session.Stays s t a b) → Keeps t files b × OnOk r (held_in t files b ≡ h)
      answered x0 x1 h seen done left = grind (arith, nat_tests, stays)

      pub wrote : (offset : ℕ) (bytes : List ℕ) (r : Result T E) → OnOk r (Redrafts a b file (λ was. IsWritten s t was.number offset bytes was.layout)) → OnErr r (session.Stays s t a b) → Keeps t files b × OnOk r (held_in t files b ≡ changed_at rows 0 (WriteDraft file offset bytes ∷ []))
      wrote offset bytes r = answered r _ (changed_at rows 0 (WriteDraft file offset bytes ∷ [])) (written offset bytes)

      pub cut : (size : ℕ) (r : Result T E) → OnOk r (session.Refits s t a b file size) → OnErr r (session.Stays s t a b) → Keeps t files b × OnOk r (held_in t files b ≡ changed_at rows 0 (TruncateDraft file size ∷ []))
      cut size r = answered r (session.Refits s t a b file size) (changed_at rows 0 (TruncateDraft file size ∷ [])) (truncated size (has_length size (draft_of a file)) refl)
