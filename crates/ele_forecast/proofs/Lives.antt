-- The version of a closing: its place among its file's rows, and the rows after it.
use Rattle.ele_forecast.proofs.Words.{◌≡◌, ℕ, zero, suc, ◌+◌, ◌<◌, ◌≤◌, false, true, Bool, List, [], ◌∷◌, ◌++◌, Option, Some, None, refl, ap, sym, subst, ◌∙◌, arith, nat_tests, filter, find, map, slice_get, AllByRecursion, AllLater, length}
use Rattle.ele_forecast.proofs.Words.{all-weaker, later-around, find-at, Policy, meets_floor, VersionRow, FileView, beside, closings, is_newer, is_numbered, IsFileOf, IsFollowed, Life, life_of, lives_from, IsForecastOf, TellsOf, Forecast}
use Rattle.ele_model.proofs.Views.{Precedes, newer_is}

-- ---- the rows of closings that never fall

-- when they closed
pub closings_are : (n : ℕ) (cs : List ℕ) (rows : List VersionRow) → map life_of rows ≡ lives_from n cs → closings rows ≡ cs
closings_are n [] [] e = refl
closings_are n [] (row ∷ rows) e = cc
closings_are n (c ∷ cs) [] e = cc
closings_are n (c ∷ cs) (row ∷ rows) e = grind (arith, nat_tests, closings_are (n + 1) cs rows)

-- a row that is numbered from above m on, and didn't close before d
abbrev IsBehind : ℕ → ℕ → VersionRow → Type 0
IsBehind m d row = (m < row.number) × (d ≤ row.closed)

all_behind : (m d n : ℕ) (cs : List ℕ) (rows : List VersionRow) → map life_of rows ≡ lives_from n cs → m < n → AllByRecursion (◌≤◌ d) cs → AllByRecursion (IsBehind m d) rows
all_behind m d n [] [] e below all = tt
all_behind m d n [] (row ∷ rows) e below all = absurd (cc)
all_behind m d n (c ∷ cs) [] e below all = absurd (cc)
all_behind m d n (c ∷ cs) (row ∷ rows) e below all = grind (arith, nat_tests, all_behind m d (n + 1) cs rows)

-- each is before those after it
pub precede : (n : ℕ) (cs : List ℕ) (rows : List VersionRow) → map life_of rows ≡ lives_from n cs → AllLater ◌≤◌ cs → AllLater Precedes rows
precede n [] [] e rising = tt
precede n [] (row ∷ rows) e rising = absurd (cc)
precede n (c ∷ cs) [] e rising = absurd (cc)
precede n (c ∷ []) (row ∷ []) e rising = (tt, tt)
precede n (c ∷ []) (row ∷ next ∷ rows) e rising = absurd (cc)
precede n (c ∷ d ∷ cs) (row ∷ []) e rising = absurd (cc)
precede n (c ∷ d ∷ cs) (row ∷ next ∷ rows) e rising =
    let life : life_of row ≡ (n, c, Some d) = cc in
    let number : row.number ≡ n = ap (λ (l : Life). l.0) life in
    let ended : row.ended ≡ Some d = ap (λ (l : Life). l.2) life in
    let behind = all_behind n d (n + 1) (d ∷ cs) (next ∷ rows) (cc) (omega arith) (omega arith, rising.1.0) in
    let below = λ (x : VersionRow) (h : IsBehind n d x). let p : Precedes row x = record { number = omega arith; ended = d; is_ended = ended; by_then = h.1 } in p in
    (all-weaker (IsBehind n d) (Precedes row) (next ∷ rows) below behind, precede (n + 1) (d ∷ cs) (next ∷ rows) (cc) rising.1)

-- ---- the row of one of them

-- the row of the closing at that place, and the closings after it
pub record IsPlaced (cs : List ℕ) (rows : List VersionRow) (place number closed : ℕ) : Type 0 where
  pub before : List VersionRow
  pub row : VersionRow
  pub behind : List VersionRow
  pub whole : rows ≡ before ++ row ∷ behind
  pub later : List ℕ
  pub next : slice_get later 0 ≡ slice_get cs (suc place)
  pub life : life_of row ≡ (number, closed, slice_get later 0)
  pub rest : map life_of behind ≡ lives_from (number + 1) later
  pub rises : AllLater ◌≤◌ (closed ∷ later)
  pub many : length later + suc place ≡ length cs

pub placed : (n : ℕ) (cs : List ℕ) (rows : List VersionRow) (place closed : ℕ) → map life_of rows ≡ lives_from n cs → AllLater ◌≤◌ cs → slice_get cs place ≡ Some closed → IsPlaced cs rows place (place + n) closed
placed n [] rows place closed e rising there = absurd (cc)
placed n (c ∷ cs) [] place closed e rising there = absurd (cc)
placed n (c ∷ cs) (row ∷ rows) zero closed e rising there =
    let same : c ≡ closed = cc in
    record {
      before = [];
      row = row;
      behind = rows;
      whole = refl;
      later = cs;
      next = refl;
      life = grind (arith, nat_tests);
      rest = grind (arith, nat_tests);
      rises = subst (λ (x : ℕ). AllLater ◌≤◌ (x ∷ cs)) same rising;
      many = omega arith;
    }
placed n (c ∷ cs) (row ∷ rows) (suc place) closed e rising there =
    let k = placed (n + 1) cs rows place closed (cc) rising.1 there in
    let number : place + (n + 1) ≡ suc place + n = omega arith in
    record {
      before = row ∷ k.before;
      row = k.row;
      behind = k.behind;
      whole = ap (λ (xs : List VersionRow). row ∷ xs) k.whole;
      later = k.later;
      next = k.next;
      life = k.life ∙ ap (λ (m : ℕ). let life : ℕ × ℕ × Option ℕ = (m, closed, slice_get k.later 0) in life) number;
      rest = k.rest ∙ ap (λ (m : ℕ). lives_from (m + 1) k.later) number;
      rises = k.rises;
      many = let more = k.many in omega arith;
    }

-- ---- what is beside it

module _ (policy : Policy) (cs : List ℕ) (v : FileView) (is : IsFileOf policy cs v) (rising : AllLater ◌≤◌ cs) (place closed : ℕ) (there : slice_get cs place ≡ Some closed) where
  pub own : IsPlaced cs v.rows place (place + 1) closed
  own = placed 1 cs v.rows place closed is.lives rising there

  closes : own.row.closed ≡ closed
  closes = ap (λ (l : Life). l.1) own.life

  numbered : own.row.number ≡ place + 1
  numbered = ap (λ (l : Life). l.0) own.life

  ends : own.row.ended ≡ slice_get cs (suc place)
  ends = ap (λ (l : Life). l.2) own.life ∙ own.next

  all_precede : AllLater Precedes (own.before ++ own.row ∷ own.behind)
  all_precede = subst (AllLater Precedes) own.whole (precede 1 cs v.rows is.lives rising)

  held : find (is_numbered (place + 1)) v.rows ≡ Some own.row
  held =
      let before = all-weaker (λ x. Precedes x own.row) (λ x. is_numbered (place + 1) x ≡ false) own.before (λ x p. let number = p.number in let n = numbered in grind (arith, nat_tests)) (later-around Precedes own.before own.row own.behind all_precede).0 in
      ap (find (is_numbered (place + 1))) own.whole ∙ find-at (is_numbered (place + 1)) own.before own.row own.behind before (let n = numbered in grind (arith, nat_tests))

  newer_rows : filter (is_newer own.row) v.rows ≡ own.behind
  newer_rows = ap (filter (is_newer own.row)) own.whole ∙ newer_is own.before own.row own.behind all_precede

  closings_same : closings (filter (is_newer own.row) v.rows) ≡ own.later
  closings_same = ap closings newer_rows ∙ closings_are (place + 1 + 1) own.later own.behind own.rest

  in_order : AllLater ◌≤◌ (own.row.closed ∷ (beside v own.row).newer)
  in_order = subst (λ (xs : List ℕ). AllLater ◌≤◌ (own.row.closed ∷ xs)) (sym closings_same) (subst (λ (x : ℕ). AllLater ◌≤◌ (x ∷ own.later)) (sym closes) own.rises)

  -- a version without an end
  pub tells_current : (forecast : Forecast) → forecast.number ≡ place + 1 → slice_get cs (suc place) ≡ None
      → ((row : VersionRow) → row.closed ≡ closed → row.ended ≡ None → TellsOf v row forecast) → IsForecastOf v forecast
  tells_current forecast number last told = record {
    row = own.row;
    held = ap (λ (n : ℕ). find (is_numbered n) v.rows) number ∙ held;
    told = told own.row closes (ends ∙ last);
  }

  module _ (ended : ℕ) (next : slice_get cs (suc place) ≡ Some ended) where
    -- the row after it
    pub record IsNext (behind : List VersionRow) : Type 0 where
      pub next_row : VersionRow
      pub others : List VersionRow
      pub parts : behind ≡ next_row ∷ others
      pub closed_then : next_row.closed ≡ ended
      pub its_number : next_row.number ≡ place + 1 + 1

    next_in : (later : List ℕ) (behind : List VersionRow) → slice_get later 0 ≡ Some ended → map life_of behind ≡ lives_from (place + 1 + 1) later → IsNext behind
    next_in [] behind e lives = absurd (cc)
    next_in (d ∷ later) [] e lives = absurd (cc)
    next_in (d ∷ later) (row ∷ behind) e lives =
        let life : life_of row ≡ (place + 1 + 1, d, slice_get later 0) = cc in
        let same : d ≡ ended = cc in
        record { next_row = row; others = behind; parts = refl; closed_then = ap (λ (l : Life). l.1) life ∙ same; its_number = ap (λ (l : Life). l.0) life }

    pub behind_it : IsNext own.behind
    behind_it = next_in own.later own.behind (own.next ∙ next) own.rest

    so_many : (newer : ℕ) → newer + suc place ≡ length cs → length (beside v own.row).newer ≡ newer
    so_many newer are = ap length closings_same ∙ (let many = own.many in omega arith)

    pub followed : (newer : ℕ) → newer + suc place ≡ length cs → IsFollowed policy v own.row behind_it.next_row newer
    followed newer are =
        let same : Some ended ≡ Some behind_it.next_row.closed = ap Some (sym behind_it.closed_then) in
        record {
          policy_is = is.policy_is;
          unread = is.unread;
          unmarked = is.unmarked;
          ended = ends ∙ next ∙ same;
          later = behind_it.others;
          behind = newer_rows ∙ behind_it.parts;
          case = record {
            in_order = in_order;
            next = ap (λ (xs : List ℕ). slice_get xs 0) closings_same ∙ own.next ∙ next ∙ same;
            enough = ap (λ (live : Bool). meets_floor policy live (length (beside v own.row).newer)) is.live ∙ ap (meets_floor policy true) (so_many newer are);
          };
        }

    pub tells_followed : (forecast : Forecast) (newer : ℕ) → newer + suc place ≡ length cs → forecast.number ≡ place + 1
        → ((row next : VersionRow) → IsFollowed policy v row next newer → row.closed ≡ closed → next.closed ≡ ended → next.number ≡ place + 1 + 1 → TellsOf v row forecast) → IsForecastOf v forecast
    tells_followed forecast newer are number told = record {
      row = own.row;
      held = ap (λ (n : ℕ). find (is_numbered n) v.rows) number ∙ held;
      told = told own.row behind_it.next_row (followed newer are) closes behind_it.closed_then behind_it.its_number;
    }

-- a closing isn't before the previous one
pub next_rises : (cs : List ℕ) (place closed ended : ℕ) → AllLater ◌≤◌ cs → slice_get cs place ≡ Some closed → slice_get cs (suc place) ≡ Some ended → closed ≤ ended
next_rises [] place closed ended rising there next = absurd (cc)
next_rises (c ∷ []) place closed ended rising there next = absurd (cc)
next_rises (c ∷ d ∷ cs) zero closed ended rising there next =
    let first : c ≡ closed = cc in let second : d ≡ ended = cc in let below = rising.0.0 in omega arith
next_rises (c ∷ d ∷ cs) (suc place) closed ended rising there next = next_rises (d ∷ cs) place closed ended rising.1 there next

-- ---- the next closing, at the place that the program looks at

pub next_from : (cs : List ℕ) (place : ℕ) (found next : Option ℕ) → found ≡ slice_get cs (place + 1) → found ≡ next → slice_get cs (suc place) ≡ next
next_from cs place found next at is = let same : suc place ≡ place + 1 = omega arith in ap (slice_get cs) same ∙ sym at ∙ is
