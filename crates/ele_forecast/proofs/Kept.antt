-- The versions that stay at a moment, by their closings alone.
use Rattle.ele_forecast.proofs.Words.{◌≡◌, ℕ, zero, suc, ◌+◌, ◌-◌, ◌≤◌, nat_le, Bool, true, false, not, cond, List, [], ◌∷◌, ◌++◌, Some, refl, ap, sym, subst, ◌∙◌, arith, nat_tests, append_assoc, filter, map, slice_get, AllByRecursion, AllLater, length, drop, append-nil}
use Rattle.std.proofs.lemmas.List.{drop_all, length-drop, take_all}
use Rattle.std.proofs.Common.{take}
use Rattle.ele_forecast.proofs.Words.{all-weaker, filter-none, filter-passes, filter-same_all, filter-swap, later-filter, Policy, VersionRow, FileView, closings, due_in, file_view, is_due_by, is_newer, is_version_of, IsFileOf, Life, life_of, lives_from, AreKept, come_by, goes, kept_from}
use Rattle.ele_model.specs.Due.{is_due_at}
use Rattle.ele_model.proofs.Views.{Precedes, newer_is}
use Rattle.ele_forecast.proofs.Followed.{due_is}
use Rattle.ele_forecast.proofs.Lives.{closings_are, precede}

-- ---- one closing after another

kept_step : (policy : Policy) (at n : ℕ) (cs : List ℕ) (place c : ℕ) → slice_get cs place ≡ Some c
    → kept_from policy at n (drop place cs) ≡ cond (not (goes policy at c (drop (suc place) cs))) (n ∷ kept_from policy at (n + 1) (drop (suc place) cs)) (kept_from policy at (n + 1) (drop (suc place) cs))
kept_step policy at n [] place c e = absurd (cc)
kept_step policy at n (x ∷ cs) zero c e = let same : x ≡ c = cc in grind (arith, nat_tests)
kept_step policy at n (x ∷ cs) (suc place) c e = kept_step policy at n cs place c e

-- those after one are no earlier
pub rise_behind : (cs : List ℕ) (place c : ℕ) → AllLater ◌≤◌ cs → slice_get cs place ≡ Some c → AllLater ◌≤◌ (c ∷ drop (suc place) cs)
rise_behind [] place c rising e = absurd (cc)
rise_behind (x ∷ cs) zero c rising e = let same : x ≡ c = cc in subst (λ (y : ℕ). AllLater ◌≤◌ (y ∷ cs)) same rising
rise_behind (x ∷ cs) (suc place) c rising e = rise_behind cs place c rising.1 e

-- and they are all that is after it
pub all_behind : (cs : List ℕ) (place : ℕ) → take (length cs - place) (drop place cs) ≡ drop place cs
all_behind cs place = take_all (length cs - place) (drop place cs) (omega (arith, length-drop place cs))

-- ---- those up to the moment

-- they are the first ones
pub first_come : (at : ℕ) (cs : List ℕ) → AllLater ◌≤◌ cs → take (length (come_by at cs)) cs ≡ come_by at cs
first_come at [] rising = refl
first_come at (c ∷ cs) rising = elim (nat_le c at) as (λ b. nat_le c at ≡ b → take (length (come_by at (c ∷ cs))) (c ∷ cs) ≡ come_by at (c ∷ cs)) [
  | false ↦ λ e.
      let late : AllByRecursion (λ x. nat_le x at ≡ false) cs = all-weaker (λ x. c ≤ x) (λ x. nat_le x at ≡ false) cs (λ x below. grind (arith, nat_tests)) rising.0 in
      let none : come_by at cs ≡ [] = filter-none (λ x. nat_le x at) cs late in
      grind (arith, nat_tests)
  | true ↦ λ e. let rest = first_come at cs rising.1 in grind (arith, nat_tests)
] refl

pub all_come : (at : ℕ) (cs : List ℕ) (n : ℕ) → AllLater ◌≤◌ cs → n ≡ length (come_by at cs) → (take n cs ≡ come_by at cs) × (n ≡ length (take n cs))
all_come at cs n rising many =
    let first : take n cs ≡ come_by at cs = ap (λ (i : ℕ). take i cs) many ∙ first_come at cs rising in (first, many ∙ ap length (sym first))

pub come_rise : (at : ℕ) (cs : List ℕ) → AllLater ◌≤◌ cs → AllLater ◌≤◌ (come_by at cs)
come_rise at cs rising = later-filter ◌≤◌ ◌≤◌ (λ c. nat_le c at) cs (λ x y px py below. below) rising

-- ---- what a file's view says of them

module _ (policy : Policy) (closed : List ℕ) (v : FileView) (is : IsFileOf policy closed v) (at : ℕ) where
  -- whether a row is due, by the newer closings
  goes_is : (row : VersionRow) (newer : List ℕ) → row.ended ≡ slice_get newer 0 → closings (filter (is_newer row) v.rows) ≡ newer → due_in v row at ≡ goes policy at row.closed newer
  goes_is row [] ends same = grind (arith, nat_tests)
  goes_is row (d ∷ later) ends same =
      due_is v row policy d is.policy_is is.unread is.unmarked ends at
      ∙ ap (λ (newer : List ℕ). is_due_by policy row.closed (record { newer = newer; live = v.live }) d at) same
      ∙ ap (λ (live : Bool). is_due_by policy row.closed (record { newer = d ∷ later; live = live }) d at) is.live

  abbrev kept : VersionRow → Bool
  kept row = not (due_in v row at)

  abbrev numbers : List VersionRow → List ℕ
  numbers rows = map (λ row. row.number) rows

  -- of the rows after some
  kept_are : (n : ℕ) (cs : List ℕ) (before rows : List VersionRow) → v.rows ≡ before ++ rows → AllLater Precedes v.rows → map life_of rows ≡ lives_from n cs → kept_from policy at n cs ≡ numbers (filter kept rows)
  kept_are n [] before [] whole precede lives = refl
  kept_are n [] before (row ∷ rows) whole precede lives = absurd (cc)
  kept_are n (c ∷ cs) before [] whole precede lives = absurd (cc)
  kept_are n (c ∷ cs) before (row ∷ rows) whole precede lives =
      let life : life_of row ≡ (n, c, slice_get cs 0) = cc in
      let number : row.number ≡ n = ap (λ (l : Life). l.0) life in
      let closes : row.closed ≡ c = ap (λ (l : Life). l.1) life in
      let ends : row.ended ≡ slice_get cs 0 = ap (λ (l : Life). l.2) life in
      let tail : map life_of rows ≡ lives_from (n + 1) cs = cc in
      let newer : filter (is_newer row) v.rows ≡ rows = ap (filter (is_newer row)) whole ∙ newer_is before row rows (subst (AllLater Precedes) whole precede) in
      let closings_same : closings (filter (is_newer row) v.rows) ≡ cs = ap closings newer ∙ closings_are (n + 1) cs rows tail in
      let due : due_in v row at ≡ goes policy at c cs = goes_is row cs ends closings_same ∙ ap (λ (x : ℕ). goes policy at x cs) closes in
      let rest : kept_from policy at (n + 1) cs ≡ numbers (filter kept rows) = kept_are (n + 1) cs (before ++ row ∷ []) rows (whole ∙ sym (append_assoc before (row ∷ []) rows)) precede tail in
      grind (arith, nat_tests)

-- ---- in a world

pub are_kept : (policy : Policy) (cs : List ℕ) (at : ℕ) → AllLater ◌≤◌ (come_by at cs) → AreKept policy cs at (kept_from policy at 1 (come_by at cs))
unfolding is_due_at
are_kept policy cs at rising w file now is =
    let come = come_by at cs in
    let v = file_view w file in
    let told = kept_are policy come v is at 1 come [] v.rows refl (precede 1 come v.rows is.lives rising) is.lives in
    let own : AllByRecursion (λ row. not (due_in v row at) ≡ not (is_due_at w row w.now)) v.rows = all-weaker (λ row. is_version_of file row ≡ true) (λ row. not (due_in v row at) ≡ not (is_due_at w row w.now)) v.rows (λ row e. let same : row.file ≡ file = grind (arith, nat_tests) in ap (λ (m : ℕ). not (due_in v row m)) (sym now) ∙ ap (λ (f : ℕ). not (due_in (file_view w f) row w.now)) (sym same)) (filter-passes (is_version_of file) w.versions) in
    told
    ∙ ap (map (λ (row : VersionRow). row.number)) (filter-same_all (λ row. not (due_in v row at)) (λ row. not (is_due_at w row w.now)) v.rows own ∙ filter-swap (λ row. not (is_due_at w row w.now)) (is_version_of file) w.versions)

-- ---- the loop over them

module _ (policy : Policy) (at : ℕ) (cs : List ℕ) (place : ℕ) (numbers : List ℕ) (so_far : numbers ++ kept_from policy at (place + 1) (drop place cs) ≡ kept_from policy at 1 cs) where
  -- the rest of the numbers when one has been looked at
  pub kept_on : (c : ℕ) (newer : List ℕ) (b : Bool) (more : List ℕ) → slice_get cs place ≡ Some c → newer ≡ drop (place + 1) cs → b ≡ not (goes policy at c newer) → more ≡ cond b (numbers ++ (place + 1) ∷ []) numbers
      → more ++ kept_from policy at (place + 1 + 1) (drop (place + 1) cs) ≡ kept_from policy at 1 cs
  kept_on c newer b more there behind test after =
      let same : suc place ≡ place + 1 = omega arith in
      let rest = kept_from policy at (place + 1 + 1) (drop (place + 1) cs) in
      let test_is : not (goes policy at c (drop (place + 1) cs)) ≡ b = ap (λ (xs : List ℕ). not (goes policy at c xs)) (sym behind) ∙ sym test in
      let step : kept_from policy at (place + 1) (drop place cs) ≡ cond b ((place + 1) ∷ rest) rest =
      kept_step policy at (place + 1) cs place c there
      ∙ ap (λ (i : ℕ). cond (not (goes policy at c (drop i cs))) ((place + 1) ∷ kept_from policy at (place + 1 + 1) (drop i cs)) (kept_from policy at (place + 1 + 1) (drop i cs))) same
      ∙ ap (λ (x : Bool). cond x ((place + 1) ∷ rest) rest) test_is in
      let moved : (x : Bool) → cond x (numbers ++ (place + 1) ∷ []) numbers ++ rest ≡ numbers ++ cond x ((place + 1) ∷ rest) rest = λ x. elim x as (λ x. cond x (numbers ++ (place + 1) ∷ []) numbers ++ rest ≡ numbers ++ cond x ((place + 1) ∷ rest) rest) [ true ↦ append_assoc numbers ((place + 1) ∷ []) rest | false ↦ refl ] in
      ap (λ (xs : List ℕ). xs ++ rest) after ∙ moved b ∙ ap (λ (xs : List ℕ). numbers ++ xs) (sym step) ∙ so_far

  -- and when all have
  pub kept_all : length cs ≤ place → numbers ≡ kept_from policy at 1 cs
  kept_all past = sym (append-nil numbers) ∙ ap (λ (xs : List ℕ). numbers ++ kept_from policy at (place + 1) xs) (sym (drop_all place cs past)) ∙ so_far
