-- A policy lets a version go from one age on, which its case determines.
use Rattle.std.proofs.Common.{length-append, ◌≡◌, ℕ, ◌+◌, ◌-◌, ◌≤◌, ◌==◌, ◌&&◌, ◌||◌, Bool, true, false, not, cond, List, [], ◌∷◌, ◌++◌, Option, Some, None, refl, ap, sym, subst, ◌∙◌, arith, zero, suc}
use Rattle.std.specs.Prelude.{nat_le, find, slice_get, option_and_then, IfSome, IfNone}
use Rattle.std.specs.List.{list_any}
use Rattle.std.specs.Option.{option_map, option_map_or}
use Rattle.std.proofs.lemmas.Bool.Decides.{nat_tests}
use Rattle.std.proofs.lemmas.List.Sums.{sum_by-cons}
use Rattle.ele_lists.proofs.Anys.{any-weaker, any-without, any-with}
use Rattle.ele_lists.specs.Lists.{AllLater}
use Rattle.ele_moment.specs.Last.{last_moment}
use Rattle.ele_policy.specs.declared.policy.Policy.{Policy}
use Rattle.ele_policy.specs.declared.policy.Policy.TheVariants.{One, All, Safe, Landmarks}
use Rattle.ele_policy.specs.declared.rule.Case.{Case}
use Rattle.ele_policy.specs.Lawful.{PoliciesAreLawful}
use Rattle.ele_policy.specs.Ladder.{Rung, ground, climbs, level_of, rung_at, shares}
use Rattle.ele_policy.specs.Policy.{IsPolicy}
use Rattle.ele_policy.specs.Rule.{floor_of, meets_floor}
use Rattle.ele_policy.specs.RipeCase.{counts_newer}
use Rattle.ele_policy.specs.Ripe.{Beside, lets_go, is_due_by, candidates, earliest_of}
use Rattle.ele_policy.specs.RipeCase.{IsBeside, IsRipe, alone, case_of, ripe_by, ripe_case}
use Rattle.ele_policy.specs.Wait.{has_newer, wait, in_time, ripe_after}
use Rattle.ele_policy.proofs.Earliest.{earliest_from, earliest_same, is_candidate, never_due}
use Rattle.ele_policy.proofs.Nesting.{climbed, nests, nearest_decides, shares_on}

-- ---- the highest rung that an age has reached

rung_of : Option Rung → List Rung → ℕ → Option Rung
rung_of below [] age = below
rung_of below (rung ∷ higher) age = cond (nat_le rung.0 age) (rung_of (Some rung) higher age) below

abbrev has_reached : ℕ → Rung → ℕ
has_reached age rung = cond (nat_le rung.0 age) 1 0

none_reached : (low : Rung) (rungs : List Rung) (age : ℕ) → climbs low rungs ≡ true → nat_le low.0 age ≡ false → level_of rungs age ≡ 0
none_reached low [] age up young = refl
none_reached low (rung ∷ rungs) age up young = grind (arith, nat_tests, sum_by-cons, (climbed low rung rungs up).0.older, none_reached rung rungs age (climbed low rung rungs up).1)

at_level : Option Rung → List Rung → ℕ → Option Rung
at_level below rungs zero = below
at_level below rungs (suc place) = slice_get rungs place

one_higher : (below : Option Rung) (rung : Rung) (rungs : List Rung) (level : ℕ) → at_level below (rung ∷ rungs) (1 + level) ≡ at_level (Some rung) rungs level
unfolding at_level
one_higher below rung rungs zero = refl
one_higher below rung rungs (suc place) = grind arith

rung_is : (low : Rung) (below : Option Rung) (rungs : List Rung) (age : ℕ) → climbs low rungs ≡ true → at_level below rungs (level_of rungs age) ≡ rung_of below rungs age
unfolding at_level rung_of
rung_is low below [] age up = refl
rung_is low below (rung ∷ rungs) age up = ap (at_level below (rung ∷ rungs)) (sum_by-cons (has_reached age) rung rungs) ∙ elim (nat_le rung.0 age) as (λ b. nat_le rung.0 age ≡ b → at_level below (rung ∷ rungs) (cond b 1 0 + level_of rungs age) ≡ cond b (rung_of (Some rung) rungs age) below) [
  | true ↦ λ e. one_higher below rung rungs (level_of rungs age) ∙ rung_is rung (Some rung) rungs age (climbed low rung rungs up).1
  | false ↦ λ e. rw (none_reached rung rungs age (climbed low rung rungs up).1 e) refl
] refl

highest : (rungs : List Rung) (age : ℕ) → climbs ground rungs ≡ true → rung_at rungs (level_of rungs age) ≡ rung_of None rungs age
unfolding at_level
highest rungs age up = grind (arith, rung_is ground None rungs age up)

-- ---- tests of rungs

-- whether an age, if there is one, is reached
abbrev pub reached : Option ℕ → ℕ → Bool
reached wait age = option_map_or (λ least. nat_le least age) wait false

abbrev first_age : (Rung → Bool) → List Rung → Option ℕ
first_age test rungs = option_map (λ rung. rung.0) (find test rungs)

-- a test that goes on passing further up
abbrev GoesOn : (Rung → Bool) → Type 0
GoesOn test = (low high : Rung) (rungs : List Rung) → climbs low (high ∷ rungs) ≡ true → test low ≡ true → test high ≡ true

module _ (test : Rung → Bool) (on : GoesOn test) where
  passes : (low : Rung) (rungs : List Rung) (age : ℕ) → climbs low rungs ≡ true → test low ≡ true → option_map_or test (rung_of (Some low) rungs age) false ≡ true
  unfolding rung_of
  passes low [] age up here = here
  passes low (rung ∷ rungs) age up here = grind (arith, nat_tests, passes rung rungs age (climbed low rung rungs up).1 (on low rung rungs up here))

  -- no rung is reached before those below it are passed
  too_young : (low : Rung) (rungs : List Rung) (age : ℕ) → climbs low rungs ≡ true → age ≤ low.0 → reached (first_age test rungs) age ≡ false
  too_young low [] age up h = refl
  too_young low (rung ∷ rungs) age up h = grind (arith, nat_tests, (climbed low rung rungs up).0.older, too_young rung rungs age (climbed low rung rungs up).1)

  -- the highest rung passes from the age of the first that does
  from_age : (low : Rung) (below : Option Rung) (rungs : List Rung) (age : ℕ) → climbs low rungs ≡ true → option_map_or test below false ≡ false → option_map_or test (rung_of below rungs age) false ≡ reached (first_age test rungs) age
  unfolding rung_of
  from_age low below [] age up fails = fails
  from_age low below (rung ∷ rungs) age up fails = elim (nat_le rung.0 age) as (λ a. nat_le rung.0 age ≡ a → option_map_or test (cond a (rung_of (Some rung) rungs age) below) false ≡ reached (first_age test (rung ∷ rungs)) age) [
    | true ↦ λ old. elim (test rung) as (λ b. test rung ≡ b → option_map_or test (rung_of (Some rung) rungs age) false ≡ reached (option_map (λ rung. rung.0) (cond b (Some rung) (find test rungs))) age) [
      | true ↦ λ e. passes rung rungs age (climbed low rung rungs up).1 e ∙ sym old
      | false ↦ λ e. from_age rung (Some rung) rungs age (climbed low rung rungs up).1 e
    ] refl
    | false ↦ λ young. grind (arith, nat_tests, too_young rung rungs age (climbed low rung rungs up).1)
  ] refl

  -- so at a level from one age on
  from_level : (rungs : List Rung) (age : ℕ) → climbs ground rungs ≡ true → option_map_or test (rung_at rungs (level_of rungs age)) false ≡ reached (first_age test rungs) age
  from_level rungs age up = ap (λ o. option_map_or test o false) (highest rungs age up) ∙ from_age ground None rungs age up refl

  -- and at a later age still
  stays : (rungs : List Rung) (early late : ℕ) → climbs ground rungs ≡ true → early ≤ late → option_map_or test (rung_at rungs (level_of rungs early)) false ≡ true → option_map_or test (rung_at rungs (level_of rungs late)) false ≡ true
  stays rungs early late up le h = from_level rungs late up ∙ grind (arith, nat_tests, from_level rungs early up)

-- ---- one age, and so one moment

shared_on : (a b : ℕ) → GoesOn (shares a b)
shared_on a b low high rungs up h = nests low high a b (climbed low high rungs up).0 h

newer_on : (closed : ℕ) (newer : List ℕ) → GoesOn (has_newer closed newer)
newer_on closed newer low high rungs up h = any-weaker (λ n. shares closed n low) (λ n. shares closed n high) newer (λ n. shared_on closed n low high rungs up) h

pub lets_go_from : (policy : Policy) (closed : ℕ) (beside : Beside) (age : ℕ) → IsPolicy policy → lets_go policy closed beside age ≡ reached (wait policy closed beside) age
lets_go_from One closed beside age given = grind (arith, nat_tests)
lets_go_from All closed beside age given = refl
lets_go_from (Safe interval floor) closed beside age given = grind (arith, nat_tests)
lets_go_from (Landmarks rungs) closed beside age given = from_level (has_newer closed beside.newer) (newer_on closed beside.newer) rungs age given.climbing

-- the moment so long after the end is one of those at which the version may become due
may_wait : (policy : Policy) (closed ended age : ℕ) (beside : Beside) → wait policy closed beside ≡ Some age → list_any (λ at. at == ended + age) (candidates policy ended) ≡ true
may_wait (Landmarks rungs) closed ended age beside is = is_candidate (has_newer closed beside.newer) ended age rungs is
may_wait policy closed ended age beside is = grind (arith, nat_tests)

pub ripe_is : (policy : Policy) (closed ended : ℕ) (beside : Beside) → IsPolicy policy → ripe_by policy closed beside ended ≡ ripe_after policy closed ended beside
unfolding ripe_by
ripe_is policy closed ended beside given =
    earliest_same (is_due_by policy closed beside ended) (λ at. nat_le ended at && reached (wait policy closed beside) (at - ended))
    (λ at fits. ap (λ b. nat_le ended at && b) (lets_go_from policy closed beside (at - ended) given)) (candidates policy ended)
    ∙ by (wait policy closed beside) refl where
      by : (o : Option ℕ) → wait policy closed beside ≡ o → earliest_of (λ at. nat_le ended at && reached o (at - ended)) (candidates policy ended) ≡ option_and_then (λ age. in_time (ended + age)) o
      by None is = earliest_same (λ at. nat_le ended at && false) (λ at. false) (λ at fits. grind (arith, nat_tests)) (candidates policy ended) ∙ never_due (candidates policy ended)
      by (Some age) is =
          earliest_same (λ at. nat_le ended at && nat_le age (at - ended)) (nat_le (ended + age)) (λ at fits. grind (arith, nat_tests)) (candidates policy ended)
          ∙ earliest_from (ended + age) (candidates policy ended) (may_wait policy closed ended age beside is)

pub due_from : (policy : Policy) (closed ended at : ℕ) (beside : Beside) → IsPolicy policy → at ≤ last_moment → is_due_by policy closed beside ended at ≡ option_map_or (λ m. nat_le m at) (ripe_by policy closed beside ended) false
due_from policy closed ended at beside given fits =
    ap (λ b. nat_le ended at && b) (lets_go_from policy closed beside (at - ended) given)
    ∙ by (wait policy closed beside)
    ∙ ap (λ o. option_map_or (λ m. nat_le m at) o false) (sym (ripe_is policy closed ended beside given)) where
      by : (o : Option ℕ) → (nat_le ended at && reached o (at - ended)) ≡ option_map_or (λ m. nat_le m at) (option_and_then (λ age. in_time (ended + age)) o) false
      by None = grind (arith, nat_tests)
      by (Some age) = grind (arith, nat_tests)

-- ---- other versions beside it

lets_go_without : (policy : Policy) (live : Bool) (xs : List ℕ) (gone : ℕ) (ys : List ℕ) (closed age gone_age : ℕ) → IsPolicy policy → gone_age ≤ age → lets_go policy gone (record { newer = ys; live = live }) gone_age ≡ true → lets_go policy closed (record { newer = xs ++ gone ∷ ys; live = live }) age ≡ lets_go policy closed (record { newer = xs ++ ys; live = live }) age
lets_go_without (Landmarks rungs) live xs gone ys closed age gone_age given longer goes = grind (arith, nat_tests, any-without, any-weaker, shares_on, stays (has_newer gone ys) (newer_on gone ys) rungs gone_age age given.climbing longer goes)
lets_go_without policy live xs gone ys closed age gone_age given longer goes = grind (arith, nat_tests, length-append xs ys, length-append xs (gone ∷ ys), goes)

lets_go_fewer : (policy : Policy) (live : Bool) (xs : List ℕ) (more : ℕ) (ys : List ℕ) (closed age : ℕ) → lets_go policy closed (record { newer = xs ++ ys; live = live }) age ≡ true → lets_go policy closed (record { newer = xs ++ more ∷ ys; live = live }) age ≡ true
lets_go_fewer policy live xs more ys closed age goes = grind (arith, nat_tests, any-with, length-append xs ys, length-append xs (more ∷ ys))

-- ---- determined by the case

same_found : (f g : Rung → Bool) (rungs : List Rung) → ((rung : Rung) → f rung ≡ g rung) → find f rungs ≡ find g rungs
same_found f g [] same = refl
same_found f g (rung ∷ rungs) same = rw (same rung, same_found f g rungs same) refl

-- how long the policy waits in a case
abbrev pub wait_case : Case → Option ℕ
wait_case case = cond (case.enough || not (counts_newer case.policy)) (wait case.policy case.closed (alone case.next_closed)) None

-- no floor is in force in it
waits_alone : (interval floor closed : ℕ) (nearest : Option ℕ) → wait (Safe interval floor) closed (alone nearest) ≡ Some interval
waits_alone interval floor closed None = refl
waits_alone interval floor closed (Some n) = refl

-- the wait is the same beside all versions of that case
pub case_tells : (policy : Policy) (closed : ℕ) (nearest : Option ℕ) (enough : Bool) (beside : Beside) → IsBeside (case_of policy closed nearest enough) beside → wait policy closed beside ≡ wait_case (case_of policy closed nearest enough)
case_tells (Safe interval floor) closed nearest enough beside is = grind (arith, nat_tests, is.enough, waits_alone interval floor closed nearest)
case_tells One closed nearest enough beside is = grind (arith, nat_tests)
case_tells All closed nearest enough beside is = grind (arith, nat_tests)
case_tells (Landmarks rungs) closed nearest enough beside is = by nearest beside.newer is.in_order is.next ∙ grind (arith, nat_tests) where
  by : (nearest : Option ℕ) (newer : List ℕ) → AllLater ◌≤◌ (closed ∷ newer) → slice_get newer 0 ≡ nearest → option_map (λ (rung : Rung). rung.0) (find (has_newer closed newer) rungs) ≡ wait (Landmarks rungs) closed (alone nearest)
  by None [] later first = refl
  by (Some n) [] later first = absurd cc
  by None (x ∷ more) later first = absurd cc
  by (Some n) (x ∷ more) later first =
      let same : x ≡ n = cc in
      ap (option_map (λ (rung : Rung). rung.0)) (same_found (has_newer closed (x ∷ more)) (has_newer closed (n ∷ [])) rungs
      (λ rung. grind (arith, nat_tests, nearest_decides rung closed x more later)))

-- the moment so long after the end
abbrev after_wait : ℕ → Option ℕ → Option ℕ
after_wait ended wait_is = option_and_then (λ age. in_time (ended + age)) wait_is

pub case_is : (case : Case) (ended : ℕ) → IsPolicy case.policy → ripe_case case ended ≡ after_wait ended (wait_case case)
case_is case ended given = by (case.enough || not (counts_newer case.policy)) where
  by : (b : Bool) → cond b (ripe_by case.policy case.closed (alone case.next_closed) ended) None ≡ after_wait ended (cond b (wait case.policy case.closed (alone case.next_closed)) None)
  by true = ripe_is case.policy case.closed ended (alone case.next_closed) given
  by false = refl

module _ (case : Case) (ended : ℕ) (given : IsPolicy case.policy) where
  tells : (beside : Beside) → IsBeside case beside → wait case.policy case.closed beside ≡ wait_case case
  tells beside is = case_tells case.policy case.closed case.next_closed case.enough beside is

  pub ripe_seen : (beside : Beside) → IsBeside case beside → ripe_by case.policy case.closed beside ended ≡ ripe_case case ended
  ripe_seen beside is = ripe_is case.policy case.closed ended beside given ∙ ap (after_wait ended) (tells beside is) ∙ sym (case_is case ended given)

  pub is_ripe : (r : Option ℕ) → r ≡ ripe_case case ended → IsRipe case ended r
  is_ripe r is beside stands = is ∙ sym (ripe_seen beside stands)

  -- beside all versions of that case, the version is due from the ripe moment on, or never
  due_seen : (at : ℕ) (wait_is : Option ℕ) (beside : Beside) → IsBeside case beside → wait_case case ≡ wait_is → is_due_by case.policy case.closed beside ended at ≡ (nat_le ended at && reached wait_is (at - ended))
  due_seen at wait_is beside stands is = ap (λ b. nat_le ended at && b) (lets_go_from case.policy case.closed beside (at - ended) given ∙ ap (λ o. reached o (at - ended)) (tells beside stands ∙ is))

  abbrev pub DueFrom : Option ℕ → Type 0
  DueFrom ripe = IfSome ripe (λ m. (beside : Beside) → IsBeside case beside → (at : ℕ) → is_due_by case.policy case.closed beside ended at ≡ nat_le m at)

  abbrev pub NeverDue : Option ℕ → Type 0
  NeverDue ripe = IfNone ripe ((beside : Beside) → IsBeside case beside → (at : ℕ) → at ≤ last_moment → is_due_by case.policy case.closed beside ended at ≡ false)

  pub ripe_from : (r : Option ℕ) → r ≡ ripe_case case ended → DueFrom r
  ripe_from r told = subst DueFrom (sym (told ∙ case_is case ended given)) (by (wait_case case) refl) where
    by : (o : Option ℕ) → wait_case case ≡ o → DueFrom (option_and_then (λ age. in_time (ended + age)) o)
    by None is = tt
    by (Some age) is = elim (nat_le (ended + age) last_moment) as (λ b. DueFrom (cond b (Some (ended + age)) None)) [
      | true ↦ λ beside stands at. due_seen at (Some age) beside stands is ∙ grind (arith, nat_tests)
      | false ↦ tt
    ]

  pub ripe_never : (r : Option ℕ) → r ≡ ripe_case case ended → NeverDue r
  ripe_never r told = subst NeverDue (sym (told ∙ case_is case ended given)) (by (wait_case case) refl) where
    by : (o : Option ℕ) → wait_case case ≡ o → NeverDue (option_and_then (λ age. in_time (ended + age)) o)
    by None is = λ beside stands at fits. due_seen at None beside stands is ∙ grind (arith, nat_tests)
    by (Some age) is = elim (nat_le (ended + age) last_moment) as (λ b. nat_le (ended + age) last_moment ≡ b → NeverDue (cond b (Some (ended + age)) None)) [
      | true ↦ λ early. tt
      | false ↦ λ late beside stands at fits. due_seen at (Some age) beside stands is ∙ grind (arith, nat_tests)
    ] refl

-- ---- the laws of one policy's cases

-- with a floor it only matters whether enough are held
ripe_counted : (policy : Policy) (case : Case) (ended : ℕ) (other : Option ℕ) → IsPolicy policy → 1 ≤ floor_of policy → ripe_case (record case { policy = policy }) ended ≡ ripe_case (record case { policy = policy; next_closed = other }) ended
ripe_counted (Safe interval floor) case ended other given some =
    case_is (record case { policy = Safe interval floor }) ended given
    ∙ grind (arith, nat_tests, waits_alone interval floor case.closed case.next_closed, waits_alone interval floor case.closed other)
    ∙ sym (case_is (record case { policy = Safe interval floor; next_closed = other }) ended given)
ripe_counted One case ended other given some = absurd (omega (arith, some))
ripe_counted All case ended other given some = absurd (omega (arith, some))
ripe_counted (Landmarks rungs) case ended other given some = absurd (omega (arith, some))

ripe_unmet : (policy : Policy) (case : Case) (ended newer : ℕ) (live : Bool) → meets_floor policy live newer ≡ false → ripe_case (record case { policy = policy; enough = false }) ended ≡ None
ripe_unmet (Safe interval floor) case ended newer live unmet = refl
ripe_unmet One case ended newer live unmet = grind (arith, nat_tests, unmet)
ripe_unmet All case ended newer live unmet = grind (arith, nat_tests, unmet)
ripe_unmet (Landmarks rungs) case ended newer live unmet = grind (arith, nat_tests, unmet)

ripe_keeps : (policy : Policy) (case : Case) (ended m nearest : ℕ) → IsPolicy policy → ripe_case (record case { policy = policy; next_closed = None }) ended ≡ Some m → ripe_case (record case { policy = policy; next_closed = Some nearest; enough = true }) ended ≡ Some m
ripe_keeps policy case ended m nearest given is =
    case_is (case_of policy case.closed (Some nearest) true) ended given ∙ by policy case.enough (sym (case_is (case_of policy case.closed None case.enough) ended given) ∙ is) where
      none : (rungs : List Rung) → find (has_newer case.closed []) rungs ≡ None
      none [] = refl
      none (rung ∷ rungs) = none rungs

      by : (policy : Policy) (enough : Bool) → after_wait ended (wait_case (case_of policy case.closed None enough)) ≡ Some m → after_wait ended (wait_case (case_of policy case.closed (Some nearest) true)) ≡ Some m
      by (Landmarks rungs) enough h = absurd (let no = none rungs in grind (arith, nat_tests))
      by (Safe interval floor) false h = absurd cc
      by policy enough h = grind (arith, nat_tests)

-- ---- so every policy is lawful

pub policies_are_lawful : PoliciesAreLawful
policies_are_lawful policy given = record {
  given = given;
  due_from = λ closed ended at beside fits. due_from policy closed ended at beside given fits;
  ripe_seen = λ case ended beside stands. ripe_seen (record case { policy = policy }) ended given beside stands;
  ripe_counted = λ case ended other some. ripe_counted policy case ended other given some;
  ripe_unmet = λ case ended newer live unmet. ripe_unmet policy case ended newer live unmet;
  ripe_keeps = λ case ended m nearest is. ripe_keeps policy case ended m nearest given is;
  lets_go_without = λ live xs gone ys closed age gone_age longer goes. lets_go_without policy live xs gone ys closed age gone_age given longer goes;
  lets_go_fewer = λ live xs more ys closed age goes. lets_go_fewer policy live xs more ys closed age goes;
}
