-- What every policy guarantees, so that the due versions of a file can be removed one by one, and a key found for each.
use Rattle.std.specs.Prelude.{◌≡◌, ℕ, ◌≤◌, nat_le, Bool, true, false, List, ◌∷◌, ◌++◌, Option, Some, None}
use Rattle.std.specs.Option.{option_map_or}
use Rattle.ele_moment.specs.Last.{last_moment}
use Rattle.ele_policy.specs.declared.policy.Policy.{Policy}
use Rattle.ele_policy.specs.declared.rule.Case.{Case}
use Rattle.ele_policy.specs.Rule.{floor_of, meets_floor}
use Rattle.ele_policy.specs.Policy.{IsPolicy}
use Rattle.ele_policy.specs.Ripe.{Beside, is_due_by, lets_go}
use Rattle.ele_policy.specs.RipeCase.{IsBeside, ripe_by, ripe_case}

pub record IsLawful (policy : Policy) : Type 0 where
  -- its numbers are allowed
  pub given : IsPolicy policy
  -- by the policy a version is due from its ripe moment on, and never without one
  pub due_from : (closed ended at : ℕ) (beside : Beside) → at ≤ last_moment
      → is_due_by policy closed beside ended at ≡ option_map_or (λ m. nat_le m at) (ripe_by policy closed beside ended) false
  -- the ripe moment follows from the version's case, whatever else is beside it
  pub ripe_seen : (case : Case) (ended : ℕ) (beside : Beside) → IsBeside (record case { policy = policy }) beside
      → ripe_by policy case.closed beside ended ≡ ripe_case (record case { policy = policy }) ended
  -- under a policy with a floor it follows from whether enough newer ones are held
  pub ripe_counted : (case : Case) (ended : ℕ) (other : Option ℕ) → 1 ≤ floor_of policy
      → ripe_case (record case { policy = policy }) ended ≡ ripe_case (record case { policy = policy; next_closed = other }) ended
  -- if too few are held, there is none
  pub ripe_unmet : (case : Case) (ended newer : ℕ) (live : Bool) → meets_floor policy live newer ≡ false
      → ripe_case (record case { policy = policy; enough = false }) ended ≡ None
  -- a version that ripens with no newer one ripens at the same moment beside one, which is enough
  pub ripe_keeps : (case : Case) (ended m nearest : ℕ) → ripe_case (record case { policy = policy; next_closed = None }) ended ≡ Some m
      → ripe_case (record case { policy = policy; next_closed = Some nearest; enough = true }) ended ≡ Some m
  -- one of the newer versions may be missing if it is let go itself: an older one that ended as long ago is still let go
  pub lets_go_without : (live : Bool) (xs : List ℕ) (gone : ℕ) (ys : List ℕ) (closed age gone_age : ℕ) → gone_age ≤ age
      → lets_go policy gone (record { newer = ys; live = live }) gone_age ≡ true
      → lets_go policy closed (record { newer = xs ++ gone ∷ ys; live = live }) age ≡ lets_go policy closed (record { newer = xs ++ ys; live = live }) age
  -- a version that is let go beside fewer newer ones is let go beside more
  pub lets_go_fewer : (live : Bool) (xs : List ℕ) (more : ℕ) (ys : List ℕ) (closed age : ℕ)
      → lets_go policy closed (record { newer = xs ++ ys; live = live }) age ≡ true
      → lets_go policy closed (record { newer = xs ++ more ∷ ys; live = live }) age ≡ true

-- every policy that can be made is lawful
abbrev pub PoliciesAreLawful : Type 0
PoliciesAreLawful = (policy : Policy) → IsPolicy policy → IsLawful policy
