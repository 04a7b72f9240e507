-- How a pass ends.
use Rattle.ele_events.specs.Does.{removed}
use Rattle.ele_model.proofs.Basics.{◌≡◌, ◌<◌, ℕ, Option, None, Some, false, arith, nat_tests, refl, subst}
use Rattle.ele_model.proofs.PassEnds.{pass_finishes}
use Rattle.ele_model.proofs.Words.{HasParts, IsCleaned, IsFinished, Key, World, clean_step, first_due}
use Rattle.std.specs.Option.{is_some}

none_due : (v after : World) → (removed None, after) ≡ clean_step v → (first_due v ≡ None) × (v ≡ after)
none_due v after is = by (first_due v) refl where
  by : (o : Option Key) → first_due v ≡ o → (o ≡ None) × (v ≡ after)
  by None e = grind (arith, nat_tests, e, is)
  by (Some key) e = grind (arith, nat_tests, e, is)

-- a clean that removes nothing
pub finished : (w v after : World) (n budget : ℕ) (key : Option Key) → HasParts w → IsCleaned w n v → is_some key ≡ false → (removed key, after) ≡ clean_step v → n < budget → IsFinished w budget n after
finished w v after n budget None k so_far none is below = let last = none_due v after is in subst (IsFinished w budget n) last.1 (pass_finishes w n v budget k so_far last.0 below)
finished w v after n budget (Some key) k so_far none is below = absurd cc
