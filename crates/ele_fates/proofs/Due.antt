-- Why a version is due.
use Rattle.ele_fates.proofs.Words.{Cover, None, Option, Some, arith, nat_le, nat_tests, option_and_then, refl, ripe_past, true, ℕ, ◌∙◌, ◌≡◌, ◌≤◌}
use Rattle.ele_model.proofs.Words.{IsLawful}
use Rattle.ele_moment.specs.Last.{last_moment}
use Rattle.ele_policy.specs.Ripe.{is_due_by}
use Rattle.ele_policy.specs.RipeCase.{alone, ripe_by, ripe_case}
use Rattle.ele_policy.specs.declared.rule.Case.{Case}

case_alone : (case : Case) (ended r : ℕ) → ripe_case case ended ≡ Some r → ripe_by case.policy case.closed (alone case.next_closed) ended ≡ Some r
case_alone case ended r is = grind (arith, nat_tests, is)

-- what ripens is due from then on beside its nearest newer one alone
pub due_alone : (cover : Cover) (case : Case) (nearest : Option ℕ) (ended since : ℕ) → case.next_closed ≡ nearest → IsLawful case.policy → since ≤ last_moment → option_and_then (ripe_past cover) (ripe_case case ended) ≡ Some since
    → is_due_by case.policy case.closed (alone nearest) ended since ≡ true
due_alone cover case nearest ended since next given fits is = rw (← next) (by (ripe_case case ended) refl is) where
  by : (o : Option ℕ) → ripe_case case ended ≡ o → option_and_then (ripe_past cover) o ≡ Some since → is_due_by case.policy case.closed (alone case.next_closed) ended since ≡ true
  by None none h = absurd cc
  by (Some r) some h = given.due_from case.closed ended since (alone case.next_closed) fits ∙ rw (case_alone case ended r some) (past cover r h) where
    past : (c : Cover) (r : ℕ) → ripe_past c r ≡ Some since → nat_le r since ≡ true
    past x0 r h = grind (arith, nat_tests, h)
