use Rattle.std.proofs.Common.{[]}
use Rattle.std.proofs.KnownBytes.{Consumes-nil, Keeps-refl}
use Rattle.ele_run_options.specs.declared.fault.ShellFault.TheVariants.{NoMemory}
use Rattle.ele_words.specs.Evidence.{read, unread}
use Rattle.ele_words.proofs.evidence.run_evidence.Goals as goal

pub returns-in_default : goal.returns-in_default
returns-in_default g c = unread [] NoMemory (Consumes-nil _) tt (Keeps-refl _) c.tell.ensures.told c.tell.ensures.status

pub returns-in-Ok-read_all : goal.returns-in-Ok-read_all
returns-in-Ok-read_all g c =
    read _ c.in-Ok-read_all.ensures.ok c.in-Ok-read_all.ensures.end (rw c.as_slice.ensures.value at c.tell_recorded.ensures)

pub returns-in-Err : goal.returns-in-Err
returns-in-Err g c =
    unread c.in-Err.ensures.err.1.0 c.in-Err.fault c.in-Err.ensures.err.1.1 c.in-Err.ensures.err.0 (Keeps-refl _) c.tell-in-Err.ensures.told c.tell-in-Err.ensures.status
