-- The text of an event spells it.
use Rattle.std.specs.List.{AllByRecursion}
use Rattle.ele_model.specs.declared.event.Event.{Event}
use Rattle.ele_commands.specs.EventText.{IsValue, event_text}
use Rattle.ele_commands.specs.Parts.{parts_of}
use Rattle.ele_script.specs.Spells.{Spells}

-- for values that are as their types say
abbrev pub EventBack : Type 0
EventBack = (event : Event) → AllByRecursion IsValue (parts_of event).1 → Spells (event_text event) event
