-- The numbers and the names of the faults of a storm.
use Rattle.std.specs.Prelude.{ℕ, List, codes}
use Rattle.ele_model.specs.Answers.{stop_answer}
use Rattle.ele_model.specs.declared.refusal.Stop.{Stop}
use Rattle.ele_model.specs.declared.refusal.Stop.TheVariants as stop
use Rattle.ele_storm_plan.specs.declared.fault.AuditFault.{AuditFault}
use Rattle.ele_storm_plan.specs.declared.fault.AuditFault.TheVariants.{Storm, TurnHeld}
use Rattle.ele_storm_plan.specs.declared.fault.StormFault.{StormFault}
use Rattle.ele_storm_plan.specs.declared.fault.StormFault.TheVariants.{NoMemory, HistoryFull, NoThread, Alone}

abbrev pub fault_of_stop : Stop → StormFault
fault_of_stop stop.NoMemory = NoMemory
fault_of_stop stop.HistoryFull = HistoryFull

abbrev pub answer_of : AuditFault → ℕ × List ℕ
answer_of (Storm NoMemory) = stop_answer stop.NoMemory
answer_of (Storm HistoryFull) = stop_answer stop.HistoryFull
answer_of TurnHeld = (38, codes "TurnHeld")
answer_of (Storm NoThread) = (39, codes "NoThread")
answer_of (Storm Alone) = (40, codes "Alone")

abbrev pub number_of : AuditFault → ℕ
number_of fault = (answer_of fault).0

abbrev pub name_of : AuditFault → List ℕ
name_of fault = (answer_of fault).1
