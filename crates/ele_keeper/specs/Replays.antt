-- The state after events and changes that are answered one after the other.
use Rattle.std.specs.Prelude.{List, [], ◌∷◌}
use Rattle.ele_history.specs.Past.{recorded}
use Rattle.ele_model.specs.Step.{step}
use Rattle.ele_model.specs.declared.event.Event.{Event}
use Rattle.ele_runs.specs.Kept.{Kept, Plain, Recorded, Journaled}

-- the state after an event, after events, and after changes. In a history each event is an entry
abbrev pub after_event : Kept → Event → Kept
after_event (Plain w last) event = Plain ((step w event).1) last
after_event (Recorded past) event = Recorded (recorded past event)
after_event (Journaled kept journal) event = Journaled kept journal

abbrev pub after_events : Kept → List Event → Kept
after_events state [] = state
after_events state (event ∷ events) = after_events (after_event state event) events

abbrev pub after_changes : Kept → List (List Event) → Kept
after_changes state [] = state
after_changes state (change ∷ changes) = after_changes (after_events state change) changes
