-- Plans, one after another.
use Rattle.std.proofs.Common.{◌≡◌, ℕ, zero, suc, ◌+◌, ◌<◌, List, [], ◌∷◌, ◌++◌, length, take, get_or, subst, arith}
use Rattle.ele_forecast_text.specs.Plan.{ArePlans, IsPlanOf}
use Rattle.ele_forecast_text.specs.declared.plan.AskedPolicy.{AskedPolicy}
use Rattle.ele_forecast_text.specs.declared.plan.Plan.{Plan}

-- the plan of one more policy
plans_next : (closings moments : List ℕ) (policies : List AskedPolicy) (i : ℕ) (asked : AskedPolicy) (plans : List Plan) (plan : Plan) → i < length policies → asked ≡ get_or policies i asked
    → ArePlans (take i policies) closings moments plans → IsPlanOf asked closings moments plan → ArePlans (take (suc i) policies) closings moments (plans ++ plan ∷ [])
plans_next closings moments [] i asked plans plan lt is far made = absurd (omega (arith, lt))
plans_next closings moments (q ∷ qs) zero asked [] plan lt is far made = (subst (λ (p : AskedPolicy). IsPlanOf p closings moments plan) is made, tt)
plans_next closings moments (q ∷ qs) zero asked (x ∷ plans) plan lt is far made = absurd far
plans_next closings moments (q ∷ qs) (suc i) asked [] plan lt is far made = absurd far
plans_next closings moments (q ∷ qs) (suc i) asked (x ∷ plans) plan lt is far made =
    let rest = plans_next closings moments qs i asked plans plan (omega (arith, lt)) is far.1 made in
    (far.0, rest)

pub plans_more : (closings moments : List ℕ) (policies : List AskedPolicy) (i : ℕ) (asked : AskedPolicy) (plans : List Plan) (plan : Plan) → i < length policies → asked ≡ get_or policies i asked
    → ArePlans (take i policies) closings moments plans → IsPlanOf asked closings moments plan → ArePlans (take (i + 1) policies) closings moments (plans ++ plan ∷ [])
plans_more closings moments policies i asked plans plan lt is far made =
    let same : suc i ≡ i + 1 = omega arith in
    subst (λ (n : ℕ). ArePlans (take n policies) closings moments (plans ++ plan ∷ [])) same (plans_next closings moments policies i asked plans plan lt is far made)
