-- Why a version without a ripe moment stays, by its age.
use Rattle.ele_forecast.proofs.Words.{◌≡◌, ℕ, ◌+◌, ◌-◌, ◌<◌, ◌≤◌, ◌&&◌, nat_le, Bool, true, false, Some, None, refl, ap, sym, subst, ◌∙◌, arith, nat_tests}
use Rattle.ele_forecast.proofs.Words.{Beside, Case, IsBeside, Policy, VersionRow, FileView, beside, case_of, is_due_by, last_moment, lets_go, meets_floor, ripe_in, GoesAtSome, IsFollowed, IsReasonOf, StaysAtAll, StaysFor, Why, Current, Never, AfterLast, Goes}
use Rattle.ele_forecast.specs.ForecastOf.{GoesAfterLast, StaysAlways}
use Rattle.ele_forecast.proofs.Followed.{has_ended}

-- ---- a version that ended at the first moment is as old as the moment

aged : (policy : Policy) (closed age : ℕ) (b : Beside) → is_due_by policy closed b 0 age ≡ lets_go policy closed b age
aged policy closed age b =
    let from : nat_le 0 age ≡ true = grind (arith, nat_tests) in
    let same : age - 0 ≡ age = omega arith in
    ap (λ (test : Bool). test && lets_go policy closed b (age - 0)) from ∙ ap (lets_go policy closed b) same

pub stays_at_all : (case : Case) → ((b : Beside) → IsBeside case b → (at : ℕ) → at ≤ last_moment → is_due_by case.policy case.closed b 0 at ≡ false) → StaysAtAll case
stays_at_all case never b is age reached = sym (aged case.policy case.closed age b) ∙ never b is age reached

pub goes_at_some : (case : Case) (m : ℕ) → m ≤ last_moment → ((b : Beside) → IsBeside case b → (at : ℕ) → is_due_by case.policy case.closed b 0 at ≡ nat_le m at) → GoesAtSome case
goes_at_some case m reached due =
    let then : nat_le m m ≡ true = grind (arith, nat_tests) in
    record { age = m; reached = reached; goes = λ b is. sym (aged case.policy case.closed m b) ∙ due b is m ∙ then }

-- ---- one that ended then

-- if it is never due, it reaches an age at which it would be only after the last moment
late_of : (policy : Policy) (closed ended age : ℕ) (b : Beside) → ((at : ℕ) → at ≤ last_moment → is_due_by policy closed b ended at ≡ false) → lets_go policy closed b age ≡ true
    → last_moment < ended + age
late_of policy closed ended age b never goes = elim (nat_le (ended + age) last_moment) as (λ test. nat_le (ended + age) last_moment ≡ test → last_moment < ended + age) [
  | false ↦ λ e. grind (arith, nat_tests)
  | true ↦ λ e.
      let from : nat_le ended (ended + age) ≡ true = grind (arith, nat_tests) in
      let same : ended + age - ended ≡ age = omega arith in
      let within : ended + age ≤ last_moment = grind (arith, nat_tests) in
      let due : is_due_by policy closed b ended (ended + age) ≡ true = ap (λ (test : Bool). test && lets_go policy closed b (ended + age - ended)) from ∙ ap (lets_go policy closed b) same ∙ goes in
      let is_not = never (ended + age) within in
      absurd (cc)
] refl

module _ (policy : Policy) (v : FileView) (row next : VersionRow) (newer : ℕ) (is : IsFollowed policy v row next newer) (closed ended : ℕ) (closes : row.closed ≡ closed) (ends : next.closed ≡ ended) (met : Bool) (floor : met ≡ meets_floor policy true newer) where
  own_case : IsBeside (case_of policy closed (Some ended) met) (beside v row)
  own_case =
      let under : ℕ → ℕ → Bool → Type 0 = λ c e m. IsBeside (case_of policy c (Some e) m) (beside v row) in
      subst (under closed ended) (sym floor) (subst (λ (e : ℕ). under closed e (meets_floor policy true newer)) ends (subst (λ (c : ℕ). under c next.closed (meets_floor policy true newer)) closes is.case))

  -- why it stays, if it has no ripe moment
  pub reason_of : (why : Why) → StaysFor (case_of policy closed (Some ended) met) why
      → ((b : Beside) → IsBeside (case_of policy closed (Some ended) met) b → (at : ℕ) → at ≤ last_moment → is_due_by policy closed b ended at ≡ false)
      → ripe_in v row ≡ None → IsReasonOf v row why
  reason_of Current stays never ripens = absurd stays
  reason_of (Goes cause) stays never ripens = absurd stays
  reason_of Never stays never ripens =
      let own : StaysAlways v row = record {
        has_ended = has_ended policy v row next newer is;
        policy = policy;
        policy_is = is.policy_is;
        kept = λ age reached. ap (λ (c : ℕ). lets_go policy c (beside v row) age) closes ∙ stays (beside v row) own_case age reached;
      } in
      (own, ripens)
  reason_of AfterLast stays never ripens =
      let then = stays.goes (beside v row) own_case in
      let own : GoesAfterLast v row = record {
        ended = ended;
        has_ended = is.ended ∙ ap Some ends;
        policy = policy;
        policy_is = is.policy_is;
        age = stays.age;
        reached = stays.reached;
        goes = ap (λ (c : ℕ). lets_go policy c (beside v row) stays.age) closes ∙ then;
        late = late_of policy closed ended stays.age (beside v row) (never (beside v row) own_case) then;
      } in
      (own, ripens)
