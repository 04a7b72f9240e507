-- Answers to events and questions, over a history or a core alone.
use Rattle.ele_runs.proofs.Basics.{ℕ, List, Option, Ok, Err, inl, inr, refl}
use Rattle.ele_audit.specs.Removals.{MayBeRemoved}
use Rattle.ele_history.specs.Past.{Past, world_of}
use Rattle.ele_history.specs.Reply.{MayStop}
use Rattle.ele_model.specs.World.{World}
use Rattle.ele_model.specs.declared.event.Event.{Event}
use Rattle.ele_model.specs.declared.refusal.Stop.{Stop}
use Rattle.ele_model.specs.declared.refusal.Stop.TheVariants.{NoMemory, HistoryFull}
use Rattle.ele_model.specs.declared.reply.Reply.{Reply}
use Rattle.ele_path.specs.declared.tagged.TaggedPath.{TaggedPath}
use Rattle.ele_runs.specs.Kept.{Plain, Recorded}
use Rattle.ele_runs.specs.Said.{Explains, Records, SaysAhead, SaysChanges, SaysExpiring, SaysFate}
use Rattle.ele_runs.specs.declared.said.Said.{Said}
use Rattle.ele_runs.specs.declared.said.Said.TheVariants.{Ahead, Changes, Expiring, Stopped, Why, WhyHeld}
use Rattle.ele_script.specs.declared.reading.Question.TheVariants as question

-- a history stopped the event
pub stops_event : (before after : Past) (event : Event) (stop : Stop) → MayStop before stop after → Records (Recorded before) event (Stopped stop) (Recorded after)
stops_event before after event HistoryFull may = may
stops_event before after event NoMemory may = may

-- what will be due, over a history
pub ahead_recorded : (past : Past) (moment : ℕ) (said : Said) → SaysAhead (world_of past) moment said → Explains (Recorded past) (question.Ahead moment) said
ahead_recorded past moment (Ahead told) says = says
ahead_recorded past moment (Stopped stop) says = says
ahead_recorded past moment said says = absurd says

-- and over a core alone
pub ahead_alone : (w : World) (last : Option Reply) (moment : ℕ) (said : Said) → SaysAhead w moment said → Explains (Plain w last) (question.Ahead moment) said
ahead_alone w last moment (Ahead told) says = says
ahead_alone w last moment (Stopped stop) says = says
ahead_alone w last moment said says = absurd says

-- what changed, over a history
pub changes_recorded : (past : Past) (first second : ℕ) (within : Option (List (List ℕ))) (said : Said) → SaysChanges (world_of past) first second within said → Explains (Recorded past) (question.Changes first second within) said
changes_recorded past first second within (Changes told) says = says
changes_recorded past first second within (Stopped stop) says = (says, tt)
changes_recorded past first second within said says = absurd says

-- and over a core alone
pub changes_alone : (w : World) (last : Option Reply) (first second : ℕ) (within : Option (List (List ℕ))) (said : Said) → SaysChanges w first second within said → Explains (Plain w last) (question.Changes first second within) said
changes_alone w last first second within (Changes told) says = says
changes_alone w last first second within (Stopped stop) says = (says, tt)
changes_alone w last first second within said says = absurd says

-- what will be due, with names, over a history
pub expiring_recorded : (past : Past) (moment : ℕ) (said : Said) → SaysExpiring (world_of past) moment said → Explains (Recorded past) (question.Expiring moment) said
expiring_recorded past moment (Expiring told) says = says
expiring_recorded past moment (Stopped stop) says = says
expiring_recorded past moment said says = absurd says

-- and over a core alone
pub expiring_alone : (w : World) (last : Option Reply) (moment : ℕ) (said : Said) → SaysExpiring w moment said → Explains (Plain w last) (question.Expiring moment) said
expiring_alone w last moment (Expiring told) says = says
expiring_alone w last moment (Stopped stop) says = says
expiring_alone w last moment said says = absurd says

-- the fate of a version, over a history
pub fate_recorded : (past : Past) (tagged : TaggedPath) (said : Said) → SaysFate (world_of past) tagged said → Explains (Recorded past) (question.Why tagged) said
fate_recorded past tagged (Why (Ok fate)) says = record { why = says.0; none = tt; held = says.1 }
fate_recorded past tagged (Why (Err refusal)) says = absurd says
fate_recorded past tagged (WhyHeld fate hold) says = says
fate_recorded past tagged (Stopped stop) says = (says.0, inr says.1)
fate_recorded past tagged said says = absurd says

-- and over a core alone
pub fate_alone : (w : World) (last : Option Reply) (tagged : TaggedPath) (said : Said) → SaysFate w tagged said → Explains (Plain w last) (question.Why tagged) said
fate_alone w last tagged (Why (Ok fate)) says = says
fate_alone w last tagged (Why (Err refusal)) says = absurd says
fate_alone w last tagged (WhyHeld fate hold) says = says
fate_alone w last tagged (Stopped stop) says = says
fate_alone w last tagged said says = absurd says

-- memory stopped the replay for a removed version
pub removal_stopped : (past : Past) (tagged : TaggedPath) → MayBeRemoved past tagged.tag → Explains (Recorded past) (question.Why tagged) (Stopped NoMemory)
removal_stopped past tagged taken = (refl, inl taken)
