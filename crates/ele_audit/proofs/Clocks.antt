-- The moment after an event, by its reply.
use Rattle.ele_audit.proofs.Basics.{arith, nat_tests, rules, refl, ◌≡◌, ℕ, Bool, true, false, List, if◌then◌else◌}
use Rattle.ele_audit.specs.Clock.{clock_after}
use Rattle.ele_model.proofs.PlanOutcomes.{InAll, outcome_of}
use Rattle.ele_model.specs.declared.event.Event.{Event}
use Rattle.ele_model.specs.declared.event.Event.TheVariants.{CleanOne, Close, Read}
use Rattle.ele_model.specs.declared.reply.Reply.{Reply}
use Rattle.ele_model.specs.Change.{Change, DropIdle, EndDraft, ShutHandle, Take, after_change, after_changes, without_file}
use Rattle.ele_model.specs.Step.{plan, step}
use Rattle.ele_model.specs.World.{World}
use Rattle.ele_model.specs.Change.{is_idle}

-- the changes leave the moment that the reply says
abbrev IsTimed : World → Reply → List Change → Type 0
IsTimed w reply changes = (after_changes w changes).now ≡ clock_after reply w.now

idle_stays : (w : World) (file : ℕ) → (after_change w (DropIdle file)).now ≡ w.now
idle_stays w file = by (is_idle w file) where
  by : (idle : Bool) → (if idle then without_file w file else w).now ≡ w.now
  by true = refl
  by false = refl

timed : (w : World) (event : Event) → InAll (IsTimed w) (plan w event)
timed w (Close handle) = λ read found. (λ none. refl, λ file writes. (λ other. refl, λ last. (λ none. refl, λ draft drafted. (λ edited. refl, λ fresh. idle_stays (after_change (after_change w (ShutHandle handle)) (EndDraft file)) file))))
timed w CleanOne = (λ none. refl, λ key first. idle_stays (after_change w (Take key.file key.number)) key.file)
timed w (Read source) = grind (arith, nat_tests)
timed w event = search (rules)

pub clocked : (w : World) (event : Event) → ((step w event).1).now ≡ clock_after ((step w event).0) w.now
clocked w event = outcome_of w (IsTimed w) (λ answer. (answer.1).now ≡ clock_after (answer.0) w.now) (λ reply changes so. so) (λ refusal. refl) (plan w event) (timed w event)
