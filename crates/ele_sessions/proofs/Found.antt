-- The entry that a search found, as the list of drafts shows it.
use Rattle.ele_sessions.proofs.Basics.{subst, ◌≡◌, ℕ, true, false, length, eqb, List, get_or, Some, None, Result, Ok, Err, refl, sym, ap, ◌∙◌, set, map-set_same, find, remove, insert, list_any, position, unwrap_or, OnErr, IfErr, stands_by, is_behind, false≢true, remove_first, insert_before, find-position, find-none, find-shown, set-shown, remove-shown, any-shown, any-missing, find-missing, insert-shown, remove-place, arith, nat_tests, found_passes, rises-map, all-not_found, remove_first-unfound}
use Rattle.ele_sessions.proofs.Words.{Layout, Entry, HandleRow, RewritesDraft, StandsAt, rewritten_by, IsAt, IsGap, drafts_of, draft_in, file_in, number_in, Draft, is_draft, is_draft_after, is_handle, Rises}

-- a gap, of what a search says of it
pub gap_of : {X : Type 0} (key : X → ℕ) (this : ℕ) (xs : List X) (r : Result ℕ ℕ) → IfErr r (λ at. position (stands_by key this) xs ≡ None) → IfErr r (λ at. unwrap_or (position (is_behind key this) xs) (length xs) ≡ at) → IfErr r (IsGap key this xs)
gap_of key this xs r missing gap = grind (arith, missing, gap)

module _ (es : List Entry) (file i : ℕ) where
  pub drafts_insert : (y : Entry) → IsGap file_in file es i → (d : Draft) → draft_in y ≡ d → drafts_of (insert es i y) ≡ insert_before (is_draft_after file) d (drafts_of es)
  drafts_insert y gap d is = insert-shown draft_in (is_draft_after file) es i y gap.gap ∙ ap (λ v. insert_before (is_draft_after file) v (drafts_of es)) is

  pub no_draft : IsGap file_in file es i → list_any (is_draft file) (drafts_of es) ≡ false
  no_draft gap = any-missing draft_in (is_draft file) es gap.missing

  pub missing_draft : IsGap file_in file es i → find (is_draft file) (drafts_of es) ≡ None
  missing_draft gap = find-missing draft_in (is_draft file) es gap.missing

  -- nothing is missing if the draft is there
  pub not_missing : IsGap file_in file es i → list_any (is_draft file) (drafts_of es) ≡ true → ⊥
  not_missing gap there = false≢true (sym (no_draft gap) ∙ there)

  pub some_draft : IsAt file_in file es i → list_any (is_draft file) (drafts_of es) ≡ true
  some_draft at = any-shown draft_in (is_draft file) es i at

  pub draft_gone : IsAt file_in file es i → drafts_of (remove es i) ≡ remove_first (is_draft file) (drafts_of es)
  draft_gone at = remove-shown draft_in (is_draft file) es i at

  module _ (e : Entry) (at : IsAt file_in file es i) (is : e ≡ get_or es i e) where
    pub found_draft : find (is_draft file) (drafts_of es) ≡ Some (draft_in e)
    found_draft = find-shown draft_in (is_draft file) es i at e is

    pub drafts_stay : (y : Entry) → draft_in y ≡ draft_in e → drafts_of (set es i y) ≡ drafts_of es
    drafts_stay y same = map-set_same draft_in es i y e (same ∙ ap draft_in is)

    -- another map for the draft
    pub rewrites : (Made : Draft → Layout → Type 0) (y : Entry) → draft_in y ≡ rewritten_by y.draft.value.map (draft_in e) → Made (draft_in e) y.draft.value.map → RewritesDraft (drafts_of es) (drafts_of (set es i y)) file Made
    rewrites Made y draft_is made =
        record { was = draft_in e; layout = y.draft.value.map; found = found_draft; made = set-shown draft_in (is_draft file) es i at (rewritten_by y.draft.value.map) e y is draft_is; how = made }

-- drafts in order, as entries
pub rises_in : (es : List Entry) → Rises (λ (d : Draft). d.file) (drafts_of es) → Rises file_in es
rises_in es rise = rises-map draft_in (λ (d : Draft). d.file) es rise

-- the search for a handle found none
pub no_handle : (hs : List HandleRow) (number i : ℕ) → IsGap number_in number hs i → find (is_handle number) hs ≡ None
no_handle hs number i gap = find-none (is_handle number) hs gap.missing

-- the handle that a search found
pub stands_there : (hs : List HandleRow) (number i : ℕ) (h : HandleRow) → IsAt number_in number hs i → h ≡ get_or hs i h → (h.number ≡ number) × StandsAt hs (record { row = h; place = i })
stands_there hs number i h at is =
    let found : find (is_handle number) hs ≡ Some h = find-position (is_handle number) hs i h at ∙ ap (λ x. Some x) (sym is) in
    let passes = found_passes (is_handle number) hs h found in
    let same : h.number ≡ number = grind (arith, nat_tests) in
    (same, record { row = subst (λ (n : ℕ). find (is_handle n) hs ≡ Some h) (sym same) found; place = subst (λ (n : ℕ). position (is_handle n) hs ≡ Some i) (sym same) at })

pub ruleset handle_steps = (find-none, find-position, remove-place, all-not_found, remove_first-unfound)
