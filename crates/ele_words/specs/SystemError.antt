-- The reason of an error of the system. No public clause cites this module.
use Rattle.std.specs.Prelude.{ℤ, pos, ◌==◌, Option, Some, None, if◌then◌else◌}
use Rattle.std.specs.declared.io.ErrorKind.{ErrorKind}
use Rattle.std.specs.declared.io.ErrorKind.TheVariants as kind
use Rattle.ele_words.specs.declared.system_reason.SystemReason.{SystemReason}
use Rattle.ele_words.specs.declared.system_reason.SystemReason.TheVariants as reason

-- the number that the system gave it: 5 is EIO, and 9 is EBADF
abbrev pub reason_by_number : Option ℤ → Option SystemReason
reason_by_number (Some (pos number)) = if number == 5 then Some reason.Device else (if number == 9 then Some reason.NotOpen else None)
reason_by_number code = None

-- its kind comes first
abbrev pub reason_by : ErrorKind → Option ℤ → Option SystemReason
reason_by kind.IsADirectory code = Some reason.IsDirectory
reason_by kind.StorageFull code = Some reason.NoSpace
reason_by kind.BrokenPipe code = Some reason.BrokenPipe
reason_by kind.PermissionDenied code = Some reason.NotPermitted
reason_by found code = reason_by_number code

-- the reason that is kept of the last error; an interrupted call leaves the one before
abbrev pub reason_after : Option SystemReason → ErrorKind → Option ℤ → Option SystemReason
reason_after old kind.Interrupted code = old
reason_after old found code = reason_by found code
