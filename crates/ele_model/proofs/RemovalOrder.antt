-- The law of the order of removal. Whichever due row is taken out, every other row is due as before, at each moment at which it was due.
use Rattle.ele_model.proofs.Basics.{◌≡◌, ◌==◌, ℕ, Bool, true, false, not, List, ◌∷◌, ◌++◌, Some, refl, ap, subst, ◌∙◌, filter, arith, ◌⊎◌, inl, inr, IfSome, nat_tests, AllLater, sym, find, AllByRecursion, filter-append, all-weaker, all-append, all-around, later-around, filter-same_all, remove_first, find-cut, remove_first-at}
use Rattle.ele_model.proofs.Words.{IsLawful, VersionRow, FileView, is_newer, closings, due_in, ArePlaced, file_view, is_version, is_version_of, Take, after_change, HasParts, World, LeavesDue}
use Rattle.ele_model.proofs.Views.{IsLife, Precedes, newer_is, newer_before, newer_without, newer_behind, precedes, view_is, lives_of, placed_of, own_rows, other_rows}
use Rattle.std.proofs.lemmas.List.{map-append}
use Rattle.ele_model.specs.Due.{is_due_at}

-- ---- in one file

abbrev pub with_rows : FileView → List VersionRow → FileView
with_rows v rows = record v { rows = rows }

closings-append : (xs ys : List VersionRow) → closings (xs ++ ys) ≡ closings xs ++ closings ys
closings-append = map-append (λ (row : VersionRow). row.closed)

module _ (v : FileView) (xs : List VersionRow) (row : VersionRow) (ys : List VersionRow) (placed : AllLater Precedes (xs ++ row ∷ ys)) (life : IsLife row) (governed : IfSome v.policy IsLawful) where
  -- on either side of the row
  pub others_stay : (x : VersionRow) (at : ℕ) → Precedes x row ⊎ Precedes row x → due_in (with_rows v (xs ++ row ∷ ys)) row at ≡ true → due_in (with_rows v (xs ++ row ∷ ys)) x at ≡ due_in (with_rows v (xs ++ ys)) x at
  others_stay x at (inl before) due = grind (arith, nat_tests, newer_before x xs row ys placed before, newer_without x xs row ys placed before, closings-append (filter (is_newer x) xs) (row ∷ ys), closings-append (filter (is_newer x) xs) ys, newer_is xs row ys placed)
  others_stay x at (inr after) due = grind (arith, newer_behind x xs row ys after)

  -- and none is due without the row that wasn't with it
  pub no_more_due : (x : VersionRow) (at : ℕ) → Precedes x row ⊎ Precedes row x → due_in (with_rows v (xs ++ ys)) x at ≡ true → due_in (with_rows v (xs ++ row ∷ ys)) x at ≡ true
  no_more_due x at (inl before) due = grind (arith, nat_tests, newer_before x xs row ys placed before, newer_without x xs row ys placed before, closings-append (filter (is_newer x) xs) (row ∷ ys), closings-append (filter (is_newer x) xs) ys, due)
  no_more_due x at (inr after) due = grind (arith, newer_behind x xs row ys after, due)

-- ---- from one file to all

-- a version of the row's file is before the row or after it
abbrev pub IsBeside : VersionRow → VersionRow → Type 0
IsBeside row x = x.file ≡ row.file → Precedes x row ⊎ Precedes row x

module _ (w : World) (before : List VersionRow) (row : VersionRow) (behind : List VersionRow) (k : HasParts w) (whole : w.versions ≡ before ++ row ∷ behind) where
  abbrev pub rest : World
  rest = record w { versions = before ++ behind }

  abbrev own : List VersionRow → List VersionRow
  own rows = filter (is_version_of row.file) rows

  abbrev with_own : List VersionRow → FileView
  with_own rows = with_rows (file_view w row.file) rows

  own_is : own w.versions ≡ own before ++ row ∷ own behind
  own_is = ap own whole ∙ own_rows before row behind

  own_placed : AllLater Precedes (own before ++ row ∷ own behind)
  own_placed = subst (AllLater Precedes) own_is (view_is w k row.file).placed

  life : IsLife row
  life = (all-around IsLife before row behind (subst (AllByRecursion IsLife) whole (lives_of w k))).1

  -- how a row is due with the row and without it, by the rows of the row's file
  seen : (Q : Bool → Bool → Type 0) → ((b : Bool) → Q b b) → (at : ℕ) (x : VersionRow)
      → (x.file ≡ row.file → Q (due_in (with_own (own before ++ row ∷ own behind)) x at) (due_in (with_own (own before ++ own behind)) x at)) → Q (is_due_at w x at) (is_due_at rest x at)
  unfolding is_due_at
  seen Q same at x here = by (x.file == row.file) refl where
    now : Bool
    now = is_due_at w x at

    then : Bool
    then = is_due_at rest x at

    by : (b : Bool) → (x.file == row.file) ≡ b → Q now then
    by true e =
        let its : x.file ≡ row.file = grind (arith, nat_tests, e) in
        let is_now : now ≡ due_in (with_own (own before ++ row ∷ own behind)) x at = ap (λ f. due_in (file_view w f) x at) its ∙ ap (λ rows. due_in (with_own rows) x at) own_is in
        let is_then : then ≡ due_in (with_own (own before ++ own behind)) x at = ap (λ f. due_in (file_view rest f) x at) its ∙ ap (λ rows. due_in (with_own rows) x at) (filter-append (is_version_of row.file) before behind) in
        subst (λ b. Q b then) (sym is_now) (subst (Q (due_in (with_own (own before ++ row ∷ own behind)) x at)) (sym is_then) (here its))
    by false e =
        let rows = ap (filter (is_version_of x.file)) whole ∙ other_rows x.file before row behind (grind (arith, nat_tests, e)) in
        subst (λ b. Q b then) (sym (ap (λ (rows : List VersionRow). due_in (with_rows (file_view w x.file) rows) x at) rows)) (same then)

  pub stays : (at : ℕ) → is_due_at w row at ≡ true → (x : VersionRow) → IsBeside row x → is_due_at rest x at ≡ is_due_at w x at
  unfolding is_due_at
  stays at due x side = seen (λ now then. then ≡ now) (λ b. refl) at x (λ same. sym (others_stay (file_view w row.file) (own before) row (own behind) own_placed life (view_is w k row.file).governed x at (side same)
      (subst (λ rows. due_in (with_own rows) row at ≡ true) own_is due)))

  pub no_more : (at : ℕ) (x : VersionRow) → IsBeside row x → is_due_at rest x at ≡ true → is_due_at w x at ≡ true
  no_more at x side = seen (λ now then. then ≡ true → now ≡ true) (λ b h. h) at x (λ same. no_more_due (file_view w row.file) (own before) row (own behind) own_placed life (view_is w k row.file).governed x at (side same))

  pub sides : AllByRecursion (IsBeside row) (before ++ behind)
  sides = grind (arith, nat_tests, whole, later-around ArePlaced before row behind, placed_of w k, all-append, all-weaker, precedes)

pub removal_order : (w : World) (before : List VersionRow) (row : VersionRow) (behind : List VersionRow) → HasParts w → w.versions ≡ before ++ row ∷ behind
    → is_due_at w row w.now ≡ true → LeavesDue w row (record w { versions = before ++ behind })
removal_order w before row behind k is due =
    let now = λ (x : VersionRow). is_due_at w x w.now in
    let then = λ (x : VersionRow). is_due_at (rest w before row behind k is) x w.now in
    let same = all-weaker (IsBeside row) (λ x. then x ≡ now x) (before ++ behind) (stays w before row behind k is w.now due) (sides w before row behind k is) in
    record {
      due = record {
        before = filter now before;
        behind = filter now behind;
        whole = grind (arith, is, due, filter-append now before (row ∷ behind));
        left = filter-same_all then now (before ++ behind) same ∙ filter-append now before behind;
      };
      kept = grind (arith, is, due, filter-same_all (λ x. not (then x)) (λ x. not (now x)) (before ++ behind), all-weaker (λ x. then x ≡ now x) (λ x. not (then x) ≡ not (now x)) (before ++ behind), same, filter-append (λ x. not (now x)));
    }

-- ---- the first row with a number is taken

pub taken : (w : World) (file number : ℕ) (row : VersionRow) (found : find (is_version file number) w.versions ≡ Some row)
    → let at = find-cut (is_version file number) w.versions row found in after_change w (Take file number) ≡ record w { versions = at.before ++ at.behind }
taken w file number row found =
    let at = find-cut (is_version file number) w.versions row found in
    ap (λ (rows : List VersionRow). let v : World = record w { versions = rows } in v) (ap (remove_first (is_version file number)) at.whole ∙ remove_first-at (is_version file number) at.before row at.behind at.none at.passes)
