-- An event that doesn't count changes nothing.
use Rattle.ele_model.proofs.Basics.{arith, ◌≡◌, true, false, not, List, [], ◌∷◌, Bool, refl, rules, nat_tests, false≢true}
use Rattle.ele_model.specs.declared.event.Event.{Event}
use Rattle.ele_model.specs.declared.reply.Reply.{Reply}
use Rattle.ele_model.specs.Change.{Change}
use Rattle.ele_model.specs.NothingChanges.{asks}
use Rattle.ele_model.specs.Step.{plan, step}
use Rattle.ele_model.specs.World.{World}
use Rattle.std.proofs.Common.{◌&&◌, ◌⊎◌, inl, inr}
use Rattle.ele_model.specs.declared.event.Event.TheVariants as events
use Rattle.ele_model.proofs.PlanOutcomes.{InAll, asking_stays, outcome_of}
use Rattle.ele_journal.specs.Events.{changes}
use Rattle.ele_journaled.specs.JournalState.{counts, is_unchanged}

-- what makes changes is answered by a reply that says so
abbrev IsSaid : Reply → List Change → Type 0
IsSaid reply [] = Unit {0}
IsSaid reply (change ∷ changes) = is_unchanged reply ≡ false

said : (w : World) (event : Event) → InAll IsSaid (plan w event)
said w (events.Read source) = grind (arith, nat_tests)
said w event = search (rules)

unchanged_stays : (w : World) (event : Event) → is_unchanged ((step w event).0) ≡ true → (step w event).1 ≡ w
unchanged_stays w event = outcome_of w IsSaid (λ answer. is_unchanged (answer.0) ≡ true → answer.1 ≡ w) (λ reply changes said is. grind (arith, nat_tests, false≢true)) (λ refusal is. refl) (plan w event) (said w event)

asked : (event : Event) → changes event ≡ false → asks event ≡ true
asked (events.Read source) is = refl
asked (events.Stat tagged) is = refl
asked (events.Versions path) is = refl
asked (events.List path) is = refl
asked events.Restorable is = refl
asked events.Due is = refl
asked events.UsageAll is = refl
asked events.GroupsAll is = refl
asked event is = absurd cc

either : (a b : Bool) → (a && not b) ≡ false → (a ≡ false) ⊎ (b ≡ true)
either false b is = inl refl
either true true is = inr refl
either true false is = absurd cc

pub uncounted_stays : (w : World) (event : Event) → counts event ((step w event).0) ≡ false → (step w event).1 ≡ w
uncounted_stays w event is =
    elim (either (changes event) (is_unchanged ((step w event).0)) is) as (λ _. (step w event).1 ≡ w) [
      | inl question ↦ asking_stays w event (asked event question)
      | inr unchanged ↦ unchanged_stays w event unchanged
    ]
