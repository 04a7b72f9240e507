use Rattle.std.proofs.Common.{◌≡◌, ◌-◌, None, length}
use Rattle.std.specs.Prelude.{slice_get}
use Rattle.ele_checkpoint.specs.PartsRead.{each_version_at}
use Rattle.ele_checkpoint.proofs.Loops.{with_front}
use Rattle.ele_checkpoint.proofs.version.each_version_of.Given as goal

abbrev pub invariant-loop : goal.invariant-loop
invariant-loop l = with_front l.rows.items (each_version_at (slice_get l.rows.items (length l.rows.items - 1)) (l.count - l.counter) l.rest) ≡ each_version_at None l.count l.bytes
