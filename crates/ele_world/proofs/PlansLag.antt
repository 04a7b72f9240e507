-- One plan from two worlds.
use Rattle.ele_model.proofs.Basics.{◌≡◌, true, false, Some, None, Ok, Err, refl}
use Rattle.ele_model.proofs.Words.{after_changes, Plan, Tell, Make, Unless, When, Need, IfFound, outcome, World}
use Rattle.ele_model.proofs.PlanOutcomes.{InAll}

-- is answered alike
pub same_reply : (u v : World) (plan : Plan) → (outcome u plan).0 ≡ (outcome v plan).0
same_reply u v (Tell reply) = refl
same_reply u v (Make reply changes) = refl
same_reply u v (Unless true refusal next) = refl
same_reply u v (Unless false refusal next) = same_reply u v next
same_reply u v (When true passing otherwise) = same_reply u v passing
same_reply u v (When false passing otherwise) = same_reply u v otherwise
same_reply u v (Need (Ok x) next) = same_reply u v (next x)
same_reply u v (Need (Err refusal) next) = refl
same_reply u v (IfFound None otherwise next) = same_reply u v otherwise
same_reply u v (IfFound (Some x) otherwise next) = same_reply u v (next x)

-- and its changes leave the same
pub both_after : (u v : World) (R : World → World → Type 0) → R u v → (plan : Plan) → InAll (λ reply changes. R (after_changes u changes) (after_changes v changes)) plan → R ((outcome u plan).1) ((outcome v plan).1)
both_after u v R stay (Tell reply) all = stay
both_after u v R stay (Make reply changes) all = all
both_after u v R stay (Unless true refusal next) all = stay
both_after u v R stay (Unless false refusal next) all = both_after u v R stay next (all refl)
both_after u v R stay (When true passing otherwise) all = both_after u v R stay passing (all.0 refl)
both_after u v R stay (When false passing otherwise) all = both_after u v R stay otherwise (all.1 refl)
both_after u v R stay (Need (Ok x) next) all = both_after u v R stay (next x) (all x refl)
both_after u v R stay (Need (Err refusal) next) all = stay
both_after u v R stay (IfFound None otherwise next) all = both_after u v R stay otherwise (all.0 refl)
both_after u v R stay (IfFound (Some x) otherwise next) all = both_after u v R stay (next x) (all.1 x refl)
