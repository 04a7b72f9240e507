-- The event in what was read of a line. No public clause cites this module.
use Rattle.std.specs.Prelude.{Result, Ok, Err}
use Rattle.ele_model.specs.declared.event.Event.{Event}
use Rattle.ele_printer.specs.declared.fault.LineFault.{LineFault}
use Rattle.ele_printer.specs.declared.fault.LineFault.TheVariants.{Syntax}
use Rattle.ele_script.specs.declared.reading.Line.{Line}
use Rattle.ele_script.specs.declared.reading.Line.TheVariants as asks

-- any other line is Syntax
abbrev pub event_of : Result Line LineFault → Result Event LineFault
event_of (Ok (asks.Event event)) = Ok event
event_of (Ok (asks.Pass budget)) = Err Syntax
event_of (Ok asks.History) = Err Syntax
event_of (Ok asks.Trim) = Err Syntax
event_of (Ok (asks.Question question)) = Err Syntax
event_of (Err fault) = Err fault
