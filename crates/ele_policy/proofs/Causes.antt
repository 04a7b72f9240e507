-- Why a policy lets a version go: under a ladder the nearest newer version of all displaces it.
use Rattle.std.proofs.Common.{◌≡◌, ℕ, ◌-◌, ◌&&◌, Bool, true, false, List, [], ◌∷◌, Option, Some, None, refl, ap, subst, ◌∙◌, arith}
use Rattle.std.specs.Prelude.{nat_le, slice_get}
use Rattle.std.specs.List.{list_any}
use Rattle.std.specs.Option.{option_map_or}
use Rattle.std.proofs.lemmas.Bool.Decides.{nat_tests}
use Rattle.ele_policy.specs.Cause.{IsDisplaced, displacing}
use Rattle.ele_policy.specs.Ladder.{Rung, level_of, rung_at, shares}
use Rattle.ele_policy.specs.Ripe.{is_due_by}
use Rattle.ele_policy.specs.RipeCase.{alone}
use Rattle.ele_policy.specs.declared.cause.Newer.{Newer}
use Rattle.ele_policy.specs.declared.policy.Policy.{Policy}
use Rattle.ele_policy.specs.declared.policy.Policy.TheVariants.{Landmarks}

-- a ladder lets it go beside a newer one with which it shares the span of its level
shared_in : (closed nearest : ℕ) (after : Bool) (o : Option Rung) → (after && option_map_or (λ rung. list_any (λ newer. shares closed newer rung) (nearest ∷ [])) o false) ≡ true → (rung : Rung) × (o ≡ Some rung) × (shares closed nearest rung ≡ true)
shared_in closed nearest after None h = absurd (grind (arith, nat_tests))
shared_in closed nearest after (Some rung) h = (rung, refl, grind (arith, nat_tests))

-- so that is the first of those that share it
first_displaces : (newer : List Newer) (nearest : Newer) (closed : ℕ) (rung : Rung) → slice_get newer 0 ≡ Some nearest → shares closed nearest.closed rung ≡ true → displacing newer closed rung ≡ Some nearest.number
first_displaces [] nearest closed rung first same = absurd cc
first_displaces (x ∷ xs) nearest closed rung first same = let is : x ≡ nearest = cc in rw (is, same) refl

pub displaced : (policy : Policy) (rungs : List Rung) (closed ended at level : ℕ) (nearest : Newer) → policy ≡ Landmarks rungs → level ≡ level_of rungs (at - ended)
    → is_due_by policy closed (alone (Some nearest.closed)) ended at ≡ true → (newer : List Newer) → slice_get newer 0 ≡ Some nearest → IsDisplaced policy closed ended newer at level nearest.number
displaced policy rungs closed ended at level nearest ladder reached due newer first =
    let under : Policy → Type 0 = λ p. is_due_by p closed (alone (Some nearest.closed)) ended at ≡ true in
    let found = shared_in closed nearest.closed (nat_le ended at) (rung_at rungs (level_of rungs (at - ended))) (subst under ladder due) in
    record {
      rungs = rungs;
      ladder = ladder;
      reached = reached;
      rung = found.0;
      at_level = ap (rung_at rungs) reached ∙ found.1;
      by_is = first_displaces newer nearest closed found.0 first found.2;
    }
