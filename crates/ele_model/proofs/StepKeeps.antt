-- Each step, and so each run, keeps a world well formed.
use Rattle.ele_model.proofs.Basics.{nat_tests, List, [], ◌∷◌, arith, AllByRecursion}
use Rattle.ele_model.proofs.Words.{Bounds, AreBounds, run_of, IsEvent, PoliciesAreLawful, plan, step, HasParts, IsWellFormed, World, fresh_world, Event}
use Rattle.ele_model.proofs.Allowed.{allowed, default_is}
use Rattle.ele_model.proofs.Formed.{in_parts, well_formed}
use Rattle.ele_model.proofs.Keeps.{all_keep, reached}
use Rattle.ele_model.specs.AlwaysWellFormed.{AlwaysWellFormed, StepKeepsWellFormed, WellFormedInFreshRuns}

-- the law of one step
pub step_keeps : (w : World) (event : Event) → IsEvent event → HasParts w → HasParts ((step w event).1)
step_keeps w event is k = let by = reached event w (plan w event) (allowed w event k) in rw by.is (all_keep event w w by.changes is by.may k)

pub fresh_is : (limits : Bounds) → AreBounds limits → IsWellFormed (fresh_world limits)
fresh_is limits bounds = grind (arith, nat_tests, default_is [] 0)

-- and of a run
pub run_keeps : (w : World) (events : List Event) → AllByRecursion IsEvent events → HasParts w → HasParts (run_of w events)
run_keeps w [] all k = k
run_keeps w (event ∷ events) all k = run_keeps ((step w event).1) events all.1 (step_keeps w event all.0 k)

-- ---- the laws

pub step_keeps_well_formed : PoliciesAreLawful → StepKeepsWellFormed
step_keeps_well_formed law w event is k = well_formed ((step w event).1) (step_keeps w event is (in_parts law w k))

pub always_well_formed : PoliciesAreLawful → AlwaysWellFormed
always_well_formed law start events formed are = well_formed (run_of start events) (run_keeps start events are (in_parts law start formed))

pub well_formed_in_fresh_runs : PoliciesAreLawful → WellFormedInFreshRuns
well_formed_in_fresh_runs law limits events bounds are = always_well_formed law (fresh_world limits) events (fresh_is limits bounds) are
