-- How the program ends after a storm: what its two writers hold then, and its exit status.
use Rattle.std.specs.Prelude.{◌≡◌, ℕ, Bool, true, false, if◌then◌else◌, List, [], ◌∷◌, codes, decimal, Option, Some, None, Result, Ok, Err}
use Rattle.std.specs.Io.KnownBytes.{Appends, Keeps}
use Rattle.ele_output.specs.Front.{AppendsFront}
use Rattle.ele_output.specs.Outlet.{Outlet, Reports}
use Rattle.ele_output.specs.Line.{line_text}
use Rattle.ele_run_options.specs.declared.fault.ShellFault.{ShellFault}
use Rattle.ele_run_options.specs.declared.fault.ShellFault.TheVariants as shell
use Rattle.ele_history.specs.Past.{Past}
use Rattle.ele_storm.specs.Audited.{IsAudited}
use Rattle.ele_storm_plan.specs.Fault.{name_of, number_of}
use Rattle.ele_storm_plan.specs.declared.fault.AuditFault.{AuditFault}
use Rattle.ele_storm_plan.specs.declared.plan.StormPlan.{StormPlan}
use Rattle.ele_model.specs.Bounds.{largest_bounds}
use Rattle.ele_words.specs.Status.{fault_status, storm_status, TellsFault}

-- the line of a fault of a storm
abbrev pub storm_fault_line : AuditFault → List ℕ
storm_fault_line fault = line_text (codes "elephant:" ∷ decimal (number_of fault) ∷ name_of fault ∷ [])

abbrev pub audit_word : Bool → List ℕ
audit_word true = codes "equal"
audit_word false = codes "unequal"

-- the line of an audited storm: how many events it ran, and what the audit found
abbrev pub storm_line : ℕ → Bool → List ℕ
storm_line events equal = line_text (codes "storm" ∷ codes "events" ∷ decimal events ∷ codes "audit" ∷ audit_word equal ∷ [])

-- a storm of the plan was run over a history under the largest limits, which was closed and audited; or a fault ended it
abbrev pub HasStormed : StormPlan → Result (ℕ × Bool) AuditFault → Type 0
HasStormed plan (Ok told) = (history : Past) × IsAudited largest_bounds plan history told.0 told.1
HasStormed plan (Err fault) = Unit {0}

-- a line, by the fault that ended it: all of it was written, or a prefix, or nothing for lack of memory
abbrev pub HasPutLine : List ℕ → Option (List ℕ) → Option (List ℕ) → Option ShellFault → Type 0
HasPutLine line old new None = Appends old new line
HasPutLine line old new (Some shell.WriteFault) = AppendsFront old new line
HasPutLine line old new (Some shell.NoMemory) = Keeps old new
HasPutLine line old new (Some shell.ReadFault) = ⊥
HasPutLine line old new (Some shell.TooManyLines) = ⊥

-- the status after a line, 0 only if all was equal
abbrev pub told_status : Bool → Option ShellFault → ℕ
told_status equal None = if equal then 0 else 4
told_status equal (Some fault) = fault_status fault

-- an audited storm was reported
pub record TellsStorm (events : ℕ) (equal : Bool) (old new : Option (List ℕ)) (before after : Outlet) (status : ℕ) : Type 0 where
  pub fault : Option ShellFault
  pub line : HasPutLine (storm_line events equal) old new fault
  pub told : TellsFault fault before after
  pub status_is : status ≡ told_status equal fault

abbrev pub TellsEnd : Result (ℕ × Bool) AuditFault → Option (List ℕ) → Option (List ℕ) → Outlet → Outlet → ℕ → Type 0
TellsEnd (Ok told) old new before after status = TellsStorm told.0 told.1 old new before after status
TellsEnd (Err fault) old new before after status =
    Keeps old new × Reports before after (storm_fault_line fault) × (status ≡ storm_status fault)

-- a storm was run, and its result reported: status 0 only if it was audited and all was equal
pub record StormEnds (plan : StormPlan) (old new : Option (List ℕ)) (before after : Outlet) (status : ℕ) : Type 0 where
  pub ended : Result (ℕ × Bool) AuditFault
  pub has_stormed : HasStormed plan ended
  pub told : TellsEnd ended old new before after status
