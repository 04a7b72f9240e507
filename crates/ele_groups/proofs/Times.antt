-- Marks and their times, after a change, and within bounds.
use Rattle.ele_groups.proofs.Basics.{◌≡◌, ℕ, ◌==◌, ◌<◌, ◌≤◌, Bool, true, false, cond, not, ◌||◌, ◌&&◌, List, [], ◌∷◌, ◌++◌, Option, Some, None, is_some, IsSome, ap, subst, refl, sym, ◌∙◌, arith, ◌+◌, min, max, nat_le, nat_lt, filter, find, is_at, BTreeMap, get, list_any, nat_cmp, is_gt, false≢true, nat_tests, remove_first, later-push, later-remove_first, all-none, found_passes, AllByRecursion}
use Rattle.ele_groups.proofs.Words.{MarkRow, Cover, Always, Free, Until, covers_moment, cover_by, cover_until, is_mark, longer, AreMarksApart, AreTimed, IsFirst}
use Rattle.ele_model.proofs.Covers.{exceeds, exceeds_by, exceeds_longer, exceeds_same, reaches}

-- ---- after a change

find_push : (k : ℕ) (mark : MarkRow) (xs : List MarkRow) → list_any (is_mark mark.at) xs ≡ false → find (is_mark k) (xs ++ mark ∷ []) ≡ cond (mark.at == k) (Some mark) (find (is_mark k) xs)
find_push k mark [] none = refl
find_push k mark (x ∷ xs) none = grind (arith, nat_tests, find_push k mark xs)

none_found : (k : ℕ) (x : MarkRow) (xs : List MarkRow) → (x.at == k) ≡ true → AllByRecursion (λ later. (x.at == later.at) ≡ false) xs → find (is_mark k) xs ≡ None
none_found k x [] is all = refl
none_found k x (y ∷ ys) is all = grind (arith, nat_tests, none_found k x ys)

find_removed : (k n : ℕ) (xs : List MarkRow) → AreMarksApart xs → find (is_mark n) (remove_first (is_mark k) xs) ≡ cond (k == n) None (find (is_mark n) xs)
find_removed k n [] apart = grind (arith, nat_tests)
find_removed k n (x ∷ xs) apart = grind (arith, nat_tests, none_found n x xs, find_removed k n xs apart.1)

module _ (made : List MarkRow) (times new : BTreeMap ℕ MarkRow) (timed : AreTimed made times) where
  pub timed_with : (mark : MarkRow) → list_any (is_mark mark.at) made ≡ false → ((t : ℕ) → get nat_cmp new t ≡ cond (mark.at == t) (Some mark) (get nat_cmp times t)) → AreTimed (made ++ mark ∷ []) new
  timed_with mark fresh changed = record {
    apart = later-push (λ x y. (x.at == y.at) ≡ false) made mark timed.apart (all-none (is_mark mark.at) made fresh);
    same = λ t. grind (arith, nat_tests, changed t, timed.same t, find_push t mark made fresh);
  }

  pub timed_without : (moment k : ℕ) → k ≡ moment → ((t : ℕ) → get nat_cmp new t ≡ cond (is_at (nat_cmp k) t) None (get nat_cmp times t)) → AreTimed (remove_first (is_mark moment) made) new
  timed_without moment k is changed = record {
    apart = later-remove_first (is_mark moment) (λ x y. (x.at == y.at) ≡ false) made timed.apart;
    same = λ t. grind (arith, nat_tests, changed t, timed.same t, find_removed moment t made timed.apart);
  }

-- ---- whether a mark is found

pub any_is_found : (k : ℕ) (xs : List MarkRow) → list_any (is_mark k) xs ≡ is_some (find (is_mark k) xs)
any_is_found k [] = refl
any_is_found k (x ∷ xs) = grind (arith, nat_tests, any_is_found k xs)

-- so it is if none is under the time
pub none_there : (made : List MarkRow) (times : BTreeMap ℕ MarkRow) → AreTimed made times → (time : ℕ) → get nat_cmp times time ≡ None → list_any (is_mark time) made ≡ false
none_there made times timed time none = any_is_found time made ∙ ap is_some (sym (timed.same time) ∙ none)

pub not_before : (from time : ℕ) → from ≤ time → is_gt (nat_cmp from time) ≡ false
not_before from time late = grind (arith, nat_tests)

some_there : (made : List MarkRow) (times : BTreeMap ℕ MarkRow) → AreTimed made times → (k : ℕ) → list_any (is_mark k) made ≡ true → IsSome (get nat_cmp times k)
some_there made times timed k there = by (get nat_cmp times k) (ap is_some (timed.same k) ∙ sym (any_is_found k made) ∙ there) where
  by : (o : Option MarkRow) → is_some o ≡ true → IsSome o
  by None none = absurd (false≢true none)
  by (Some x) some = refl

-- the first from a moment on
pub first_told : (made : List MarkRow) (times : BTreeMap ℕ MarkRow) → AreTimed made times → (from time : ℕ) (mark : MarkRow) → is_gt (nat_cmp from time) ≡ false → get nat_cmp times time ≡ Some mark
    → ((k : ℕ) → is_gt (nat_cmp from k) ≡ false → IsSome (get nat_cmp times k) → is_gt (nat_cmp time k) ≡ false) → IsFirst made from mark
first_told made times timed from time mark late there least =
    let found : find (is_mark time) made ≡ Some mark = sym (timed.same time) ∙ there in
    let own : (mark.at == time) ≡ true = found_passes (is_mark time) made mark found in
    let same : time ≡ mark.at = grind (arith, nat_tests) in
    record {
      stands = subst (λ t. find (is_mark t) made ≡ Some mark) same found;
      late = grind (arith, nat_tests);
      least = λ k from_k before. by k from_k before same (list_any (is_mark k) made) refl;
    } where
      by : (k : ℕ) → from ≤ k → k < mark.at → time ≡ mark.at → (b : Bool) → list_any (is_mark k) made ≡ b → b ≡ false
      by k from_k before same false none = refl
      by k from_k before same true is = absurd (less k before same (least k (not_before from k from_k) (some_there made times timed k is))) where
        less : (k : ℕ) → k < mark.at → time ≡ mark.at → is_gt (nat_cmp time k) ≡ false → ⊥
        less k before same gt = grind (arith, nat_tests)

-- ---- within bounds

reaches_found : (closed : ℕ) (ended : Option ℕ) (d : Cover) (mark : MarkRow) (xs : List MarkRow) → find (is_mark mark.at) xs ≡ Some mark → reaches closed ended d mark ≡ true → list_any (reaches closed ended d) xs ≡ true
reaches_found closed ended d mark [] found is = absurd cc
reaches_found closed ended d mark (x ∷ xs) found is = grind (arith, nat_tests, reaches_found closed ended d mark xs)

-- nothing keeps longer than for ever
none_longer : (closed : ℕ) (ended : Option ℕ) (xs : List MarkRow) → list_any (reaches closed ended Always) xs ≡ false
none_longer closed ended [] = refl
none_longer closed ended (x ∷ xs) = grind (arith, nat_tests, none_longer closed ended xs)

-- a mark without an end keeps for ever
pub always : (closed : ℕ) (ended : Option ℕ) (mark : MarkRow) (xs : List MarkRow) → find (is_mark mark.at) xs ≡ Some mark → mark.until ≡ None → covers_moment closed ended mark.at ≡ true → cover_by closed ended xs ≡ Always
always closed ended mark xs found endless covers = exceeds_same _ _ (λ d. exceeds_by closed ended d xs ∙ by d) where
  by : (d : Cover) → list_any (reaches closed ended d) xs ≡ exceeds Always d
  by Always = none_longer closed ended xs
  by Free = reaches_found closed ended Free mark xs found (grind (arith, nat_tests))
  by (Until end) = reaches_found closed ended (Until end) mark xs found (grind (arith, nat_tests))

-- ---- one mark after another

abbrev IsNotBetween : ℕ → ℕ → MarkRow → Type 0
IsNotBetween from at x = (nat_le from x.at && nat_lt x.at at) ≡ false

none_between : (from at : ℕ) (xs : List MarkRow) → ((time : ℕ) → from ≤ time → time < at → list_any (is_mark time) xs ≡ false) → AllByRecursion (IsNotBetween from at) xs
none_between from at [] least = tt
none_between from at (x ∷ xs) least = (head (nat_le from x.at) (nat_lt x.at at) refl refl, none_between from at xs (λ time late before. rest time (least time late before))) where
  head : (a b : Bool) → nat_le from x.at ≡ a → nat_lt x.at at ≡ b → (a && b) ≡ false
  head true true late before = absurd (false≢true (sym (least x.at (grind (arith, nat_tests)) (grind (arith, nat_tests))) ∙ grind (arith, nat_tests)))
  head true false late before = refl
  head false b late before = refl

  rest : (time : ℕ) → ((x.at == time) || list_any (is_mark time) xs) ≡ false → list_any (is_mark time) xs ≡ false
  rest time none = grind (arith, nat_tests)

module _ (closed from at : ℕ) (d : Cover) (before : closed ≤ from) (late : from ≤ at) where
  reaches_more : (xs : List MarkRow) → AllByRecursion (IsNotBetween from at) xs
      → list_any (reaches closed (Some (at + 1)) d) xs ≡ (list_any (reaches closed (Some from) d) xs || list_any (λ x. is_mark at x && exceeds (cover_until x.until) d) xs)
  reaches_more [] all = refl
  reaches_more (x ∷ xs) all = grind (arith, nat_tests, reaches_more xs all.1)

none_own : (d : Cover) (x : MarkRow) (xs : List MarkRow) → AllByRecursion (λ later. (x.at == later.at) ≡ false) xs → list_any (λ y. is_mark x.at y && exceeds (cover_until y.until) d) xs ≡ false
none_own d x [] all = refl
none_own d x (y ∷ ys) all = grind (arith, nat_tests, none_own d x ys all.1)

its_own : (d : Cover) (mark : MarkRow) (xs : List MarkRow) → AreMarksApart xs → find (is_mark mark.at) xs ≡ Some mark → list_any (λ x. is_mark mark.at x && exceeds (cover_until x.until) d) xs ≡ exceeds (cover_until mark.until) d
its_own d mark [] apart found = absurd cc
its_own d mark (x ∷ xs) apart found = grind (arith, nat_tests, none_own d x xs apart.0, its_own d mark xs apart.1)

-- up to the first mark from there on
pub between_more : (xs : List MarkRow) → AreMarksApart xs → (from next : ℕ) (mark : MarkRow) → from ≤ next → IsFirst xs next mark → cover_by from (Some (mark.at + 1)) xs ≡ longer (cover_by from (Some next) xs) (cover_until mark.until)
between_more xs apart from next mark before first = exceeds_same _ _ (λ d.
    exceeds_by from (Some (mark.at + 1)) d xs
    ∙ reaches_more from next mark.at d before first.late xs (none_between next mark.at xs first.least)
    ∙ rw (its_own d mark xs apart first.stands, ← exceeds_by from (Some next) d xs) (sym (exceeds_longer (cover_by from (Some next) xs) (cover_until mark.until) d)))

-- if none is further on
reaches_done : (from next until : ℕ) (d : Cover) → from ≤ next → (nat_le next until || (next == from)) ≡ true → (xs : List MarkRow) → AllByRecursion (IsNotBetween next until) xs → list_any (reaches from (Some until) d) xs ≡ list_any (reaches from (Some next) d) xs
reaches_done from next until d before on [] all = refl
reaches_done from next until d before on (x ∷ xs) all = grind (arith, nat_tests, reaches_done from next until d before on xs all.1)

pub between_done : (xs : List MarkRow) (from next until : ℕ) → from ≤ next → (nat_le next until || (next == from)) ≡ true → ((time : ℕ) → next ≤ time → time < until → list_any (is_mark time) xs ≡ false) → cover_by from (Some until) xs ≡ cover_by from (Some next) xs
between_done xs from next until before on none = exceeds_same _ _ (λ d.
    exceeds_by from (Some until) d xs ∙ reaches_done from next until d before on xs (none_between next until xs none) ∙ sym (exceeds_by from (Some next) d xs))

reaches_end : (from next : ℕ) (d : Cover) → from ≤ next → (xs : List MarkRow) → ((time : ℕ) → next ≤ time → list_any (is_mark time) xs ≡ false) → list_any (reaches from None d) xs ≡ list_any (reaches from (Some next) d) xs
reaches_end from next d before [] none = refl
reaches_end from next d before (x ∷ xs) none = grind (arith, nat_tests, none x.at, reaches_end from next d before xs (λ time late. rest time (none time late))) where
  rest : (time : ℕ) → ((x.at == time) || list_any (is_mark time) xs) ≡ false → list_any (is_mark time) xs ≡ false
  rest time none = grind (arith, nat_tests)

pub from_done : (xs : List MarkRow) (from next : ℕ) → from ≤ next → ((time : ℕ) → next ≤ time → list_any (is_mark time) xs ≡ false) → cover_by from None xs ≡ cover_by from (Some next) xs
from_done xs from next before none = exceeds_same _ _ (λ d. exceeds_by from None d xs ∙ reaches_end from next d before xs none ∙ sym (exceeds_by from (Some next) d xs))

-- before the first moment none lies
pub none_before : (from : ℕ) (xs : List MarkRow) → cover_by from (Some from) xs ≡ Free
none_before from [] = refl
none_before from (x ∷ xs) = grind (arith, nat_tests, none_before from xs)

-- ---- two spans beside a moment

module _ (left closed : ℕ) where
  reaches_until : (ended : ℕ) (d : Cover) (xs : List MarkRow) → (list_any (reaches closed (Some (min left ended)) d) xs || list_any (reaches (max closed (left + 1)) (Some ended) d) xs) ≡ list_any (reaches closed (Some ended) d) (filter (λ mark. not (mark.at == left)) xs)
  reaches_until ended d [] = refl
  reaches_until ended d (x ∷ xs) = grind (arith, nat_tests, reaches_until ended d xs)

  reaches_from : (d : Cover) (xs : List MarkRow) → (list_any (reaches closed (Some left) d) xs || list_any (reaches (max closed (left + 1)) None d) xs) ≡ list_any (reaches closed None d) (filter (λ mark. not (mark.at == left)) xs)
  reaches_from d [] = refl
  reaches_from d (x ∷ xs) = grind (arith, nat_tests, reaches_from d xs)

  pub until_without : (ended : ℕ) (xs : List MarkRow) → longer (cover_by closed (Some (min left ended)) xs) (cover_by (max closed (left + 1)) (Some ended) xs) ≡ cover_by closed (Some ended) (filter (λ mark. not (mark.at == left)) xs)
  until_without ended xs = exceeds_same _ _ (λ d. exceeds_longer (cover_by closed (Some (min left ended)) xs) (cover_by (max closed (left + 1)) (Some ended) xs) d
      ∙ rw (exceeds_by closed (Some (min left ended)) d xs, exceeds_by (max closed (left + 1)) (Some ended) d xs) (reaches_until ended d xs)
      ∙ sym (exceeds_by closed (Some ended) d (filter (λ mark. not (mark.at == left)) xs)))

  pub from_without : (xs : List MarkRow) → longer (cover_by closed (Some left) xs) (cover_by (max closed (left + 1)) None xs) ≡ cover_by closed None (filter (λ mark. not (mark.at == left)) xs)
  from_without xs = exceeds_same _ _ (λ d. exceeds_longer (cover_by closed (Some left) xs) (cover_by (max closed (left + 1)) None xs) d
      ∙ rw (exceeds_by closed (Some left) d xs, exceeds_by (max closed (left + 1)) None d xs) (reaches_from d xs)
      ∙ sym (exceeds_by closed None d (filter (λ mark. not (mark.at == left)) xs)))
