-- An event that is refused changes nothing, and an event that only asks changes nothing.
use Rattle.std.specs.Prelude.{◌≡◌, Bool, true, false}
use Rattle.ele_model.specs.declared.event.Event.{Event}
use Rattle.ele_model.specs.declared.event.Event.TheVariants.{Read, Stat, Versions, List, Restorable, Due, UsageAll, GroupsAll, Note}
use Rattle.ele_model.specs.declared.refusal.Refusal.{Refusal}
use Rattle.ele_model.specs.declared.reply.Reply.TheVariants.{Refused}
use Rattle.ele_model.specs.Step.{step}
use Rattle.ele_model.specs.World.{World}

abbrev pub RefusedStays : Type 0
RefusedStays = (w : World) (event : Event) (refusal : Refusal) → (step w event).0 ≡ Refused refusal → (step w event).1 ≡ w

-- the event only asks, or is a note
abbrev pub asks : Event → Bool
asks (Read source) = true
asks (Stat tagged) = true
asks (Versions at) = true
asks (List at) = true
asks Restorable = true
asks Due = true
asks UsageAll = true
asks GroupsAll = true
asks (Note bytes) = true
asks event = false

abbrev pub AskingStays : Type 0
AskingStays = (w : World) (event : Event) → asks event ≡ true → (step w event).1 ≡ w
