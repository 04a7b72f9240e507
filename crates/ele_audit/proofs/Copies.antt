-- The copy of a world's rows after an event, by its reply.
use Rattle.ele_audit.proofs.Basics.{arith, nat_tests, rules, refl, ◌≡◌, List, Option, ap}
use Rattle.ele_audit.specs.LastCopy.{IsCopy, world_after}
use Rattle.ele_model.proofs.PlanOutcomes.{InAll, outcome_of}
use Rattle.ele_model.specs.declared.event.Event.{Event}
use Rattle.ele_model.specs.declared.event.Event.TheVariants.{Read}
use Rattle.ele_model.specs.declared.reply.Reply.{Reply}
use Rattle.ele_model.specs.Change.{Change, after_changes}
use Rattle.ele_model.specs.Step.{plan, step}
use Rattle.ele_model.specs.World.{World}

-- the changes leave the world that the reply says
abbrev IsSaid : World → Reply → List Change → Type 0
IsSaid w reply changes = IsCopy (after_changes w changes) (world_after reply w)

said : (w : World) (event : Event) → InAll (IsSaid w) (plan w event)
said w (Read source) = grind (arith, nat_tests)
said w event = search (rules)

pub goes_on : (w : World) (event : Event) → IsCopy ((step w event).1) (world_after ((step w event).0) w)
goes_on w event = outcome_of w (IsSaid w) (λ answer. IsCopy answer.1 (world_after answer.0 w)) (λ reply changes so. so) (λ refusal. refl) (plan w event) (said w event)

-- the same from a copy of the world, with the answer
pub copy_goes : (w next rows : World) (event : Event) (reply : Reply) (after : Option World) → rows ≡ w → (reply, next) ≡ step w event → after ≡ world_after reply rows → IsCopy next after
copy_goes w next rows event reply after is told after_is = rw (after_is, is, ap (λ answer. answer.0) told, ap (λ answer. answer.1) told) (goes_on w event)
