-- A held version is due from its ripe moment on, which its next held version and the marks that cover it determine.
use Rattle.ele_model.proofs.Basics.{AllByRecursion, ◌≡◌, ℕ, ◌≤◌, ◌&&◌, ◌||◌, ◌++◌, ◌==◌, Bool, true, false, not, cond, List, [], ◌∷◌, nat_tests, Option, Some, None, refl, ap, sym, subst, ◌∙◌, nat_le, max, option_and_then, IfSome, list_any, list_any-append, option_map_or, all-split, all-any, arith}
use Rattle.ele_model.proofs.Words.{Cover, Always, Free, Until, Policy, is_due_by, candidates, earliest_of, last_moment, IsLawful, VersionRow, FileView, file_view, beside, cover_by, due_in, ends_over, is_protected, keeps_at, lasts, ripe_in, ripe_past, IsDueFromRipe, RipeIsAnswer, HasParts, World, policy_of}
use Rattle.ele_policy.specs.RipeCase.{ripe_by}
use Rattle.ele_model.specs.Due.{is_due_at, ripe_of}
use Rattle.ele_model.proofs.Covers.{end_stands, lasts_by}
use Rattle.ele_model.proofs.Views.{view_is, closings_in_order}

-- ---- the earliest of moments

-- of moments at which nothing is due none is the earliest
pub earliest_never : (d : ℕ → Bool) → ((at : ℕ) → at ≤ last_moment → d at ≡ false) → (moments : List ℕ) → earliest_of d moments ≡ None
earliest_never d never [] = refl
earliest_never d never (at ∷ moments) = grind (arith, nat_tests, never at, earliest_never d never moments)

-- the earliest is one of them, not past the last moment, and passes
record IsOne (d : ℕ → Bool) (m : ℕ) (moments : List ℕ) : Type 0 where
  stands : list_any (λ at. at == m) moments ≡ true
  fits : m ≤ last_moment
  passes : d m ≡ true

earliest_is_one : (d : ℕ → Bool) (m : ℕ) (moments : List ℕ) → earliest_of d moments ≡ Some m → IsOne d m moments
earliest_is_one d m [] is = absurd cc
earliest_is_one d m (at ∷ moments) is = by (earliest_of d moments) refl (λ n some. earliest_is_one d n moments some) where
  by : (o : Option ℕ) → earliest_of d moments ≡ o → ((n : ℕ) → earliest_of d moments ≡ Some n → IsOne d n moments) → IsOne d m (at ∷ moments)
  by None none before = grind (arith, nat_tests)
  by (Some n) some before = let rest = before n some in grind (arith, nat_tests, rest.stands, rest.fits, rest.passes)

-- for a test that holds from a moment on, which is among them, it is that moment
earliest_from : (d : ℕ → Bool) (t : ℕ) → t ≤ last_moment → ((at : ℕ) → at ≤ last_moment → d at ≡ nat_le t at) → (moments : List ℕ) → list_any (λ at. at == t) moments ≡ true → earliest_of d moments ≡ Some t
earliest_from d t fits from [] stands = absurd cc
earliest_from d t fits from (at ∷ moments) stands = by (at == t) refl (earliest_of d moments) refl (earliest_from d t fits from moments) where
  by : (b : Bool) → (at == t) ≡ b → (o : Option ℕ) → earliest_of d moments ≡ o → (list_any (λ m. m == t) moments ≡ true → earliest_of d moments ≡ Some t) → earliest_of d (at ∷ moments) ≡ Some t
  by true own None none before = grind (arith, nat_tests, from at)
  by true own (Some n) some before = let one = earliest_is_one d n moments some in grind (arith, nat_tests, from at, from n, one.passes, one.fits)
  by false other o is before = grind (arith, nat_tests, from at)

-- ---- with marks that end

-- a test that holds from a moment on while no cover lasts
abbrev due_past : Cover → Option ℕ → ℕ → Bool
due_past c ripe at = not (lasts c at) && option_map_or (λ m. nat_le m at) ripe false

-- holds from the later of both on
pub due_past_is : (c : Cover) (ripe : Option ℕ) (at : ℕ) → at ≤ last_moment → due_past c ripe at ≡ option_map_or (λ m. nat_le m at) (option_and_then (ripe_past c) ripe) false
due_past_is c ripe at fits = grind (arith, nat_tests)

-- and the earliest of the policy's moments and the ends at which it holds is that one
earliest_past : (c : Cover) (ripe : Option ℕ) (d : ℕ → Bool) (moments ends : List ℕ) → ((at : ℕ) → at ≤ last_moment → d at ≡ due_past c ripe at)
    → ((m : ℕ) → ripe ≡ Some m → (list_any (λ at. at == m) moments ≡ true) × (m ≤ last_moment)) → ((end : ℕ) → c ≡ Until end → list_any (λ m. m == end) ends ≡ true)
    → earliest_of d (moments ++ ends) ≡ option_and_then (ripe_past c) ripe
earliest_past c None d moments ends is among ending = earliest_never d (λ at fits. grind (arith, nat_tests, is at)) (moments ++ ends)
earliest_past Always (Some m) d moments ends is among ending = earliest_never d (λ at fits. grind (arith, nat_tests, is at)) (moments ++ ends)
earliest_past Free (Some m) d moments ends is among ending = let at_m = among m refl in earliest_from d m at_m.1 (λ at fits. grind (arith, nat_tests, is at)) (moments ++ ends) (grind (arith, nat_tests, list_any-append, at_m.0))
earliest_past (Until end) (Some m) d moments ends is among ending = by (nat_le (max end m) last_moment) refl where
  t : ℕ
  t = max end m

  stands : list_any (λ at. at == t) (moments ++ ends) ≡ true
  stands = grind (arith, nat_tests, list_any-append, among m refl, ending end refl)

  by : (b : Bool) → nat_le t last_moment ≡ b → earliest_of d (moments ++ ends) ≡ cond b (Some t) None
  by true fits = earliest_from d t (grind (arith, nat_tests)) (λ at within. grind (arith, nat_tests, is at)) (moments ++ ends) stands
  by false past = earliest_never d (λ at within. grind (arith, nat_tests, is at)) (moments ++ ends)

-- ---- of a version

abbrev is_pinned : FileView → VersionRow → Bool
is_pinned v row = list_any (λ number. number == row.number) v.pinned

-- its moment by whether it is pinned, its policy and its end
abbrev pub ripe_if : Bool → FileView → VersionRow → Option Policy → Option ℕ → Option ℕ
ripe_if b v row p e =
    cond b None (option_and_then (λ policy. option_and_then (λ ended. option_and_then (ripe_past (cover_by row.closed (Some ended) v.marks)) (ripe_by policy row.closed (beside v row) ended)) e) p)

abbrev due_by : Bool → FileView → VersionRow → Option Policy → Option ℕ → ℕ → Bool
due_by b v row p e at =
    not (b || list_any (keeps_at row.closed e at) v.marks) && option_map_or (λ policy. option_map_or (λ ended. is_due_by policy row.closed (beside v row) ended at) e false) p false

abbrev earliest_if : Bool → FileView → VersionRow → Option Policy → Option ℕ → Option ℕ
earliest_if b v row p e = option_and_then (λ policy. option_and_then (λ ended. earliest_of (due_by b v row p e) (candidates policy ended ++ ends_over row.closed e v.marks)) e) p

module _ (v : FileView) (row : VersionRow) where
  -- it is due as its policy and its cover say
  due_covered : (policy : Policy) (ended : ℕ) → IsLawful policy → (at : ℕ) → at ≤ last_moment
      → due_by false v row (Some policy) (Some ended) at ≡ due_past (cover_by row.closed (Some ended) v.marks) (ripe_by policy row.closed (beside v row) ended) at
  due_covered policy ended given at fits = rw (lasts_by row.closed (Some ended) at v.marks, given.due_from row.closed ended at (beside v row) fits) refl

  among : (policy : Policy) (ended m : ℕ) → ripe_by policy row.closed (beside v row) ended ≡ Some m → (list_any (λ at. at == m) (candidates policy ended) ≡ true) × (m ≤ last_moment)
  unfolding ripe_by
  among policy ended m is = let one = earliest_is_one _ m (candidates policy ended) is in (one.stands, one.fits)

  ripe_by_if : (b : Bool) (p : Option Policy) (e : Option ℕ) → IfSome p IsLawful → earliest_if b v row p e ≡ ripe_if b v row p e
  ripe_by_if true None e given = refl
  ripe_by_if false None e given = refl
  ripe_by_if true (Some policy) None given = refl
  ripe_by_if false (Some policy) None given = refl
  ripe_by_if true (Some policy) (Some ended) given = earliest_never _ (λ at fits. refl) (candidates policy ended ++ ends_over row.closed (Some ended) v.marks)
  ripe_by_if false (Some policy) (Some ended) given =
      earliest_past (cover_by row.closed (Some ended) v.marks) (ripe_by policy row.closed (beside v row) ended) _ (candidates policy ended) (ends_over row.closed (Some ended) v.marks)
      (due_covered policy ended given) (among policy ended) (λ end is. end_stands row.closed (Some ended) end v.marks is)

  due_by_if : (b : Bool) (p : Option Policy) (e : Option ℕ) → IfSome p IsLawful → (at : ℕ) → at ≤ last_moment → due_by b v row p e at ≡ option_map_or (λ m. nat_le m at) (ripe_if b v row p e) false
  due_by_if true None e given at fits = refl
  due_by_if false None e given at fits = grind (arith, nat_tests)
  due_by_if true (Some policy) e given at fits = refl
  due_by_if false (Some policy) None given at fits = grind (arith, nat_tests)
  due_by_if false (Some policy) (Some ended) given at fits =
      due_covered policy ended given at fits ∙ due_past_is (cover_by row.closed (Some ended) v.marks) (ripe_by policy row.closed (beside v row) ended) at fits

  -- when it ripens: as its policy says, but not before its cover ends, and not while a handle reads it
  pub ripe_told : IfSome v.policy IsLawful → ripe_in v row ≡ ripe_if (is_pinned v row) v row v.policy row.ended
  ripe_told given = ripe_by_if (is_pinned v row) v.policy row.ended given

  -- and it is due from then on
  pub due_told : IfSome v.policy IsLawful → (at : ℕ) → at ≤ last_moment → due_in v row at ≡ option_map_or (λ m. nat_le m at) (ripe_in v row) false
  due_told given at fits = due_by_if (is_pinned v row) v.policy row.ended given at fits ∙ ap (λ o. option_map_or (λ m. nat_le m at) o false) (sym (ripe_told given))

-- of any rows, whose policies are lawful
pub due_from_ripe_of : (w : World) (row : VersionRow) → IfSome (policy_of w.files row.file) IsLawful → IsDueFromRipe w row
unfolding is_due_at ripe_of
due_from_ripe_of w row governed at fits = due_told (file_view w row.file) row governed at fits

pub ripens : (w : World) → HasParts w → (row : VersionRow) → IsDueFromRipe w row
ripens w k row = due_from_ripe_of w row (view_is w k row.file).governed

pub due_from_ripe : (w : World) → HasParts w → AllByRecursion (IsDueFromRipe w) w.versions
due_from_ripe w k = all-any (IsDueFromRipe w) w.versions (ripens w k)

-- ---- of one that isn't protected

-- a cover that never lasts delays nothing
past_free : (c : Cover) (ripe : Option ℕ) → ((at : ℕ) → lasts c at ≡ false) → ((m : ℕ) → ripe ≡ Some m → m ≤ last_moment) → option_and_then (ripe_past c) ripe ≡ ripe
past_free c None none fits = refl
past_free Free (Some m) none fits = refl
past_free Always (Some m) none fits = grind (arith, none 0)
past_free (Until end) (Some m) none fits = grind (arith, nat_tests, none 0, fits m refl)

-- what its policy decides
free_ripe : (v : FileView) (row : VersionRow) (policy : Policy) (ended : ℕ) → ((at : ℕ) → is_protected v row at ≡ false) → IsLawful policy → v.policy ≡ Some policy → row.ended ≡ Some ended → ripe_in v row ≡ ripe_by policy row.closed (beside v row) ended
free_ripe v row policy ended free given filed ends =
    ripe_told v row (subst (λ p. IfSome p IsLawful) (sym filed) given)
    ∙ ap (λ b. ripe_if b v row v.policy row.ended) (left (is_pinned v row) (list_any (keeps_at row.closed row.ended 0) v.marks) (free 0))
    ∙ ap (λ p. ripe_if false v row p row.ended) filed
    ∙ ap (λ e. ripe_if false v row (Some policy) e) ends
    ∙ past_free (cover_by row.closed (Some ended) v.marks) (ripe_by policy row.closed (beside v row) ended) (λ at. sym (lasts_by row.closed (Some ended) at v.marks) ∙ unmarked at) (λ m is. (among v row policy ended m is).1) where
      left : (a b : Bool) → (a || b) ≡ false → a ≡ false
      left a b none = grind (arith, none)

      right : (a b : Bool) → (a || b) ≡ false → b ≡ false
      right a b none = grind (arith, none)

      unmarked : (at : ℕ) → list_any (keeps_at row.closed (Some ended) at) v.marks ≡ false
      unmarked at = subst (λ e. list_any (keeps_at row.closed e at) v.marks ≡ false) ends (right (is_pinned v row) (list_any (keeps_at row.closed row.ended at) v.marks) (free at))

pub ripe_is_answered : (w : World) → HasParts w → AllByRecursion (RipeIsAnswer w) w.versions
unfolding ripe_of
ripe_is_answered w k = all-split (RipeIsAnswer w) w.versions (λ before row behind whole policy ended answer filed ends free is.
    let v = file_view w row.file in
    let governed : IsLawful policy = subst (λ p. IfSome p IsLawful) filed (view_is w k row.file).governed in
    free_ripe v row policy ended free governed filed ends ∙ sym (is (beside v row) (record { in_order = closings_in_order w before row behind (view_is w k row.file) whole; next = refl; enough = refl })))
