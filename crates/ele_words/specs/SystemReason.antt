-- The report of a fault, and of why the system failed to read or to write.
use Rattle.std.specs.Prelude.{◌≡◌, List, ℕ, ◌++◌, codes, Option, Some, None}
use Rattle.ele_run_options.specs.declared.fault.ShellFault.{ShellFault}
use Rattle.ele_run_options.specs.declared.fault.ShellFault.TheVariants.{ReadFault, WriteFault, TooManyLines, NoMemory}
use Rattle.ele_words.specs.Status.{fault_line}
use Rattle.ele_words.specs.declared.system_reason.SystemReason.{SystemReason}
use Rattle.ele_words.specs.declared.system_reason.SystemReason.TheVariants.{IsDirectory, NoSpace, BrokenPipe, NotPermitted, Device, NotOpen}

-- the line of a reason
abbrev pub reason_line : SystemReason → List ℕ
reason_line IsDirectory = codes "elephant: it is a directory\n"
reason_line NoSpace = codes "elephant: there is no space left\n"
reason_line BrokenPipe = codes "elephant: nobody reads the pipe any more\n"
reason_line NotPermitted = codes "elephant: it is not permitted\n"
reason_line Device = codes "elephant: the device failed\n"
reason_line NotOpen = codes "elephant: it is not open\n"

-- the line of a fault, and then that of the reason if it is known
abbrev pub failed_text : ShellFault → Option SystemReason → List ℕ
failed_text fault None = fault_line fault
failed_text fault (Some why) = fault_line fault ++ reason_line why

-- only a fault of reading or writing has a reason
abbrev pub IsReasonOf : ShellFault → Option SystemReason → Type 0
IsReasonOf ReadFault why = Unit {0}
IsReasonOf WriteFault why = Unit {0}
IsReasonOf TooManyLines why = why ≡ None
IsReasonOf NoMemory why = why ≡ None
