-- The faults of lines, with their numbers and names, and the faults of paths among them.
use Rattle.std.specs.Prelude.{ℕ, List, codes}
use Rattle.ele_path.specs.declared.fault.PathFault.{PathFault}
use Rattle.ele_path.specs.declared.fault.PathFault.TheVariants as path
use Rattle.ele_path.specs.declared.fault.PathAtFault.{PathAtFault}
use Rattle.ele_path.specs.declared.fault.PathAtFault.TheVariants as timed
use Rattle.ele_model.specs.Answers.{stop_answer}
use Rattle.ele_model.specs.declared.refusal.Stop.TheVariants as stop
use Rattle.ele_printer.specs.declared.fault.LineFault.{LineFault}
use Rattle.ele_printer.specs.declared.fault.LineFault.TheVariants.{BadName, BadPath, BadMoment, BadLadder, Syntax, LineTooLong, NoMemory}

abbrev pub fault_answer : LineFault → ℕ × List ℕ
fault_answer BadName = (28, codes "BadName")
fault_answer BadPath = (29, codes "BadPath")
fault_answer BadMoment = (30, codes "BadMoment")
fault_answer BadLadder = (31, codes "BadLadder")
fault_answer Syntax = (32, codes "Syntax")
fault_answer LineTooLong = (33, codes "LineTooLong")
fault_answer NoMemory = stop_answer stop.NoMemory

abbrev pub fault_number : LineFault → ℕ
fault_number fault = (fault_answer fault).0

abbrev pub fault_name : LineFault → List ℕ
fault_name fault = (fault_answer fault).1

-- the fault of a line, if its path has the fault
abbrev pub fault_of_path : PathFault → LineFault
fault_of_path path.BadName = BadName
fault_of_path path.BadPath = BadPath
fault_of_path path.BadMoment = BadMoment
fault_of_path path.NoMemory = NoMemory

-- the fault of a line, if its path at a moment has the fault
abbrev pub fault_of_path_at : PathAtFault → LineFault
fault_of_path_at (timed.Path fault) = fault_of_path fault
fault_of_path_at timed.Numbered = Syntax
