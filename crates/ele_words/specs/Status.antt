-- The exit status of the program, and the line of a fault.
use Rattle.std.specs.Prelude.{ℕ, List, [], ◌∷◌, codes, decimal, Option, Some, None}
use Rattle.ele_output.specs.Outlet.{Outlet, Reports}
use Rattle.ele_output.specs.Line.{line_text}
use Rattle.ele_run_options.specs.Fault.{number_of, name_of}
use Rattle.ele_run_options.specs.declared.fault.ShellFault.{ShellFault}
use Rattle.ele_run_options.specs.declared.fault.ShellFault.TheVariants.{ReadFault, WriteFault, TooManyLines, NoMemory}
use Rattle.ele_storm_plan.specs.declared.fault.AuditFault.{AuditFault}
use Rattle.ele_storm_plan.specs.declared.fault.AuditFault.TheVariants as audited
use Rattle.ele_storm_plan.specs.declared.fault.StormFault.TheVariants as storm
use Rattle.ele_words.specs.declared.failure.Failure.{Failure}
use Rattle.ele_words.specs.declared.failure.Failure.TheVariants.{Fault, Storm, Unequal, NotUnderstood, BadInput, StrictLine, NoEvidence}

-- after a failure
abbrev pub status_after : Failure → ℕ
status_after (Fault ReadFault) = 1
status_after (Fault WriteFault) = 1
status_after (Fault TooManyLines) = 1
status_after (Fault NoMemory) = 3
status_after (Storm (audited.Storm storm.NoThread)) = 1
status_after (Storm (audited.Storm storm.NoMemory)) = 3
status_after (Storm (audited.Storm storm.HistoryFull)) = 4
status_after (Storm (audited.Storm storm.Alone)) = 4
status_after (Storm audited.TurnHeld) = 4
status_after Unequal = 4
status_after NotUnderstood = 2
status_after BadInput = 2
status_after StrictLine = 5
status_after NoEvidence = 1

-- after a fault
abbrev pub fault_status : ShellFault → ℕ
fault_status fault = status_after (Fault fault)

-- after a fault of a storm
abbrev pub storm_status : AuditFault → ℕ
storm_status fault = status_after (Storm fault)

-- after a fault, or without one
abbrev pub status_of : Option ShellFault → ℕ
status_of None = 0
status_of (Some fault) = fault_status fault

-- the line of a fault: its number and its name
abbrev pub fault_line : ShellFault → List ℕ
fault_line fault = line_text (codes "elephant:" ∷ decimal (number_of fault) ∷ name_of fault ∷ [])

-- the line of the fault was printed; nothing if there is no fault
abbrev pub TellsFault : Option ShellFault → Outlet → Outlet → Type 0
TellsFault None before after = Reports before after []
TellsFault (Some fault) before after = Reports before after (fault_line fault)
