-- That drafts and handles stay orderly when a handle is opened or closed.
use Rattle.ele_sessions.proofs.Basics.{◌≡◌, ℕ, ◌+◌, ◌<◌, true, false, not, eqb, List, [], ◌∷◌, ◌++◌, Some, refl, sym, ◌∙◌, arith, AllByRecursion, list_any, find, filter, nat_tests, update_first, remove_first, insert_before, filter-passes, all-push, all-weaker, all-both, all-none, all-update_first, all-insert_before, all-remove_first, all-found, found_passes, later-push, later-update_first, later-remove_first, later-insert_before, list_any-update_first, list_any-insert_before, list_any-remove_first, remove_first-key, list_any-append}
use Rattle.ele_sessions.proofs.Words.{Layout, rewritten_by, left_drafts, with_draft, Rises, IsReadable, AreOrderly, Draft, AllSessions, is_draft, is_draft_after, is_handle, writes, is_writer, HandleRow, Reads}
use Rattle.ele_model.specs.declared.rows.Reads.TheVariants as reads

abbrev IsWritten : List HandleRow → Draft → Type 0
IsWritten hs d = list_any (is_writer d.file) hs ≡ true

-- the drafts with a new one, unless its file has one
module _ (new : Draft) (ds : List Draft) (rise : Rises (λ (d : Draft). d.file) ds) where
  with-rise : Rises (λ (d : Draft). d.file) (with_draft new ds)
  with-rise =
      let put : list_any (is_draft new.file) ds ≡ false → Rises (λ (d : Draft). d.file) (insert_before (is_draft_after new.file) new ds) = λ e. later-insert_before (is_draft_after new.file) (λ (x y : Draft). x.file < y.file) (λ (d : Draft). is_draft new.file d ≡ false) new ds (λ x other no. grind (arith, nat_tests)) (λ x other passes. grind (arith, nat_tests)) (λ x z passes lt. grind (arith, nat_tests)) (all-none (is_draft new.file) ds e) rise in
      grind (arith, nat_tests, list_any, is_draft, insert_before, is_draft_after, rise, put)

  with-all : (P : Draft → Type 0) → P new → AllByRecursion P ds → AllByRecursion P (with_draft new ds)
  with-all P h all = grind (arith, nat_tests, list_any, is_draft, insert_before, is_draft_after, all-insert_before)

  with-any : (f : ℕ) → list_any (is_draft f) ds ≡ true → list_any (is_draft f) (with_draft new ds) ≡ true
  with-any f there = grind (arith, nat_tests, list_any, is_draft, insert_before, is_draft_after, list_any-insert_before)

  with-own : list_any (is_draft new.file) (with_draft new ds) ≡ true
  with-own = grind (arith, nat_tests, list_any-insert_before (is_draft_after new.file) (is_draft new.file) new ds)

module _ (s : AllSessions) (orderly : AreOrderly s) where
  -- one handle more
  module _ (h : HandleRow) (next : h.number ≡ s.opened + 1) where
    entered : (ds : List Draft) → Rises (λ (d : Draft). d.file) ds → ((what : Reads) → IsReadable s.drafts what → IsReadable ds what) → IsReadable ds h.reads → AllByRecursion (IsWritten (s.handles ++ h ∷ [])) ds → AreOrderly (record { drafts = ds; handles = s.handles ++ h ∷ []; opened = s.opened + 1 })
    entered ds rise on its written = grind (arith, nat_tests, on, later-push, all-weaker, all-push)

    still_written : AllByRecursion (IsWritten (s.handles ++ h ∷ [])) s.drafts
    still_written = all-weaker (IsWritten s.handles) (IsWritten (s.handles ++ h ∷ [])) s.drafts (λ d w. grind (arith, w, list_any-append (is_writer d.file) s.handles (h ∷ []))) orderly.written

    pub reader_entered : (file number : ℕ) → h.reads ≡ reads.Version file number → AreOrderly (record s { handles = s.handles ++ h ∷ []; opened = s.opened + 1 })
    reader_entered file number is = entered s.drafts orderly.drafts_rise (λ what r. r) (rw is tt) still_written

    pub writer_entered : (new : Draft) → h.reads ≡ reads.Draft new.file → AreOrderly (record { drafts = with_draft new s.drafts; handles = s.handles ++ h ∷ []; opened = s.opened + 1 })
    writer_entered new is = entered (with_draft new s.drafts) (with-rise new s.drafts orderly.drafts_rise) on (rw is (with-own new s.drafts orderly.drafts_rise)) (with-all new s.drafts orderly.drafts_rise (IsWritten (s.handles ++ h ∷ [])) own still_written) where
      on : (what : Reads) → IsReadable s.drafts what → IsReadable (with_draft new s.drafts) what
      on what there = grind (arith, there, with-any new s.drafts orderly.drafts_rise)

      own : IsWritten (s.handles ++ h ∷ []) new
      own = grind (arith, nat_tests, is, list_any-append (is_writer new.file) s.handles (h ∷ []))

  -- one handle fewer
  module _ (number : ℕ) (h : HandleRow) (found : find (is_handle number) s.handles ≡ Some h) where
    abbrev rest : List HandleRow
    rest = remove_first (is_handle number) s.handles

    left : (ds : List Draft) → Rises (λ (d : Draft). d.file) ds → AllByRecursion (λ (x : HandleRow). IsReadable ds x.reads) rest → AllByRecursion (IsWritten rest) ds → AreOrderly (record s { drafts = ds; handles = rest })
    left ds rise drafted written = grind (arith, nat_tests, later-remove_first, is_handle, all-remove_first)

    drafted_left : AllByRecursion (λ (x : HandleRow). IsReadable s.drafts x.reads) rest
    drafted_left = all-remove_first (is_handle number) (λ (x : HandleRow). IsReadable s.drafts x.reads) s.handles orderly.drafted

    -- what the handle doesn't write is written by others
    others : (file : ℕ) → is_writer file h ≡ false → list_any (is_writer file) rest ≡ list_any (is_writer file) s.handles
    others file none = list_any-remove_first (is_handle number) (is_writer file) s.handles (λ x is. let e = sym found ∙ is in let same : h ≡ x = cc in rw (← same) none)

    pub reader_left : (file version : ℕ) → h.reads ≡ reads.Version file version → AreOrderly (record s { handles = rest })
    reader_left file version is = left s.drafts orderly.drafts_rise drafted_left (all-weaker (IsWritten s.handles) (IsWritten rest) s.drafts (λ d w. others d.file (rw is refl) ∙ w) orderly.written)

    module _ (file : ℕ) (is : h.reads ≡ reads.Draft file) where
      pub its_draft : list_any (is_draft file) s.drafts ≡ true
      its_draft = let there = all-found (is_handle number) (λ (x : HandleRow). IsReadable s.drafts x.reads) s.handles h found orderly.drafted in rw is at there

      still : (d : Draft) → eqb d.file file ≡ false → IsWritten s.handles d → IsWritten rest d
      still d apart w = others d.file (rw is (let e : eqb file d.file ≡ false = grind (arith, nat_tests) in e)) ∙ w

      stays : list_any (is_writer file) rest ≡ true → AreOrderly (record s { handles = rest })
      stays more = grind (arith, nat_tests, left, drafted_left, all-weaker, eqb, still)

      abbrev fewer : List Draft
      fewer = remove_first (is_draft file) s.drafts

      goes : list_any (is_writer file) rest ≡ false → AreOrderly (record s { drafts = fewer; handles = rest })
      goes none = left fewer (later-remove_first (is_draft file) (λ (x y : Draft). x.file < y.file) s.drafts orderly.drafts_rise) (all-weaker (λ (x : HandleRow). IsReadable s.drafts x.reads × (is_writer file x ≡ false)) (λ (x : HandleRow). IsReadable fewer x.reads) rest (λ x both. on x.reads both.0 both.1) (all-both (λ (x : HandleRow). IsReadable s.drafts x.reads) (λ (x : HandleRow). is_writer file x ≡ false) rest drafted_left (all-none (is_writer file) rest none))) (all-weaker (λ (d : Draft). IsWritten s.handles d × (eqb d.file file ≡ false)) (IsWritten rest) fewer (λ d both. still d both.1 both.0) (all-both (IsWritten s.handles) (λ (d : Draft). eqb d.file file ≡ false) fewer (all-remove_first (is_draft file) (IsWritten s.handles) s.drafts orderly.written) apart)) where
        on : (what : Reads) → IsReadable s.drafts what → writes file what ≡ false → IsReadable fewer what
        on (reads.Draft f) there other = list_any-remove_first (is_draft file) (is_draft f) s.drafts (λ x found. let passes = found_passes (is_draft file) s.drafts x found in grind (arith, nat_tests)) ∙ there
        on (reads.Version f n) there other = tt

        apart : AllByRecursion (λ (d : Draft). eqb d.file file ≡ false) fewer
        apart = rw (remove_first-key (λ (d : Draft). d.file) file s.drafts orderly.drafts_rise) (all-weaker (λ (d : Draft). not (eqb d.file file) ≡ true) (λ (d : Draft). eqb d.file file ≡ false) (filter (λ (d : Draft). not (eqb d.file file)) s.drafts) (λ d h. grind (arith, h)) (filter-passes (λ (d : Draft). not (eqb d.file file)) s.drafts))

      pub writer_left : AreOrderly (record s { drafts = left_drafts (list_any (is_writer file) rest) file s.drafts; handles = rest })
      writer_left = grind (arith, nat_tests, list_any, is_writer, stays, goes)

  -- another map for a draft
  pub rewritten : (file : ℕ) (layout : Layout) → AreOrderly (record s { drafts = update_first (is_draft file) (rewritten_by layout) s.drafts })
  rewritten file layout =
      let rises = later-update_first (is_draft file) (λ (x y : Draft). x.file < y.file) (rewritten_by layout) s.drafts (λ x y r. r) (λ x y r. r) orderly.drafts_rise in
      let drafted = all-weaker (λ (x : HandleRow). IsReadable s.drafts x.reads) (λ (x : HandleRow). IsReadable (update_first (is_draft file) (rewritten_by layout) s.drafts) x.reads) s.handles (λ x. on x.reads) orderly.drafted in
      assumption (rises, orderly, drafted, all-update_first (is_draft file) (IsWritten s.handles) (IsWritten s.handles) (rewritten_by layout) s.drafts (λ d w. w) (λ d w. w) orderly.written) where
        on : (what : Reads) → IsReadable s.drafts what → IsReadable (update_first (is_draft file) (rewritten_by layout) s.drafts) what
        on what there = grind (arith, there, λ (f : ℕ). list_any-update_first (is_draft file) (is_draft f) (rewritten_by layout) s.drafts (λ x e. refl))
