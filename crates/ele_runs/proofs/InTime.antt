-- A reply with the time has a moment of the calendar, and so a text.
use Rattle.std.specs.Prelude.{Bool}
use Rattle.ele_runs.proofs.Basics.{nat_tests, ℕ, ◌≤◌, List, [], ◌∷◌, refl, arith}
use Rattle.ele_runs.proofs.VersionInfo.{some_stamp}
use Rattle.ele_runs.proofs.Words.{Reply}
use Rattle.std.proofs.Common.{rules}
use Rattle.ele_moment.specs.Last.{last_moment}
use Rattle.ele_printer.specs.Printed.{IsReplyText}
use Rattle.ele_script.specs.Spells.{Asks, SpellsValues}
use Rattle.ele_script.specs.Value.{Moment}
use Rattle.ele_script.specs.declared.reading.Line.TheVariants as asks
use Rattle.ele_model.specs.Step.{plan, step}
use Rattle.ele_model.specs.World.{World}
use Rattle.ele_model.specs.declared.event.Event.{Event}
use Rattle.ele_model.specs.declared.event.Event.TheVariants.{Clock, Tick}
use Rattle.ele_model.specs.declared.reply.Reply.TheVariants.{Now}
use Rattle.ele_model.proofs.PlanOutcomes.{InAll, outcome_of}

-- the time in a reply is a moment
abbrev pub IsInTime : Reply → Type 0
IsInTime (Now moment) = moment ≤ last_moment
IsInTime reply = Unit {0}

abbrev pub AsksInTime : Event → Type 0
AsksInTime (Clock to) = to ≤ last_moment
AsksInTime event = Unit {0}

planned_in_time : (w : World) (event : Event) → AsksInTime event → InAll (λ reply changes. IsInTime reply) (plan w event)
planned_in_time w (Clock to) in_time = λ test. in_time
planned_in_time w (Tick seconds) in_time = λ test. grind (arith, nat_tests)
planned_in_time w event in_time = search (rules)

pub told_in_time : (w : World) (event : Event) → AsksInTime event → IsInTime (step w event).0
told_in_time w event in_time =
    outcome_of w (λ reply changes. IsInTime reply) (λ told. IsInTime told.0) (λ reply changes so. so) (λ refusal. tt) (plan w event) (planned_in_time w event in_time)

first_in_time : (words : List (List ℕ)) (to : ℕ) → SpellsValues words (Moment to ∷ []) → to ≤ last_moment
first_in_time [] to is = absurd is
first_in_time (word ∷ words) to is = is.0.in_range

pub asked_in_time : {explains : Bool} (line : List ℕ) (event : Event) → Asks explains line (asks.Event event) → AsksInTime event
asked_in_time line (Clock to) is = first_in_time is.spells.words.arguments to is.spells.words.values
asked_in_time line event is = tt

-- so a reply has a text
pub some_text : (reply : Reply) → IsInTime reply → (text : List ℕ) × IsReplyText reply text
some_text (Now moment) in_time = let stamp = some_stamp moment in_time in (_, (stamp.0, stamp.1, refl))
some_text reply in_time = (_, refl)
