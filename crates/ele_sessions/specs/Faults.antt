-- The faults of writes and truncates, as the world's refusals.
use Rattle.std.specs.Prelude.{Option, Some, None}
use Rattle.ele_model.specs.declared.refusal.Refusal.{Refusal}
use Rattle.ele_model.specs.declared.refusal.Refusal.TheVariants as refusal
use Rattle.ele_sessions.specs.declared.fault.SessionFault.{SessionFault}
use Rattle.ele_sessions.specs.declared.fault.SessionFault.TheVariants.{NoHandle, NotWriter, TooBig, NoMemory}

-- the refusal of the same name; refused memory is none
abbrev pub refusal_of : SessionFault → Option Refusal
refusal_of NoHandle = Some refusal.NoHandle
refusal_of NotWriter = Some refusal.NotWriter
refusal_of TooBig = Some refusal.TooBig
refusal_of NoMemory = None
