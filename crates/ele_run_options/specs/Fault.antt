-- The numbers and names of the faults that end a run early.
use Rattle.std.specs.Prelude.{ℕ, List, codes}
use Rattle.ele_model.specs.Answers.{stop_answer}
use Rattle.ele_model.specs.declared.refusal.Stop.TheVariants as stop
use Rattle.ele_output.specs.WriteFault.{write_fault_name, write_fault_number}
use Rattle.ele_run_options.specs.declared.fault.ShellFault.{ShellFault}
use Rattle.ele_run_options.specs.declared.fault.ShellFault.TheVariants.{ReadFault, WriteFault, TooManyLines, NoMemory}

abbrev pub answer_of : ShellFault → ℕ × List ℕ
answer_of NoMemory = stop_answer stop.NoMemory
answer_of ReadFault = (34, codes "ReadFault")
answer_of WriteFault = (write_fault_number, write_fault_name)
answer_of TooManyLines = (36, codes "TooManyLines")

abbrev pub number_of : ShellFault → ℕ
number_of fault = (answer_of fault).0

abbrev pub name_of : ShellFault → List ℕ
name_of fault = (answer_of fault).1
