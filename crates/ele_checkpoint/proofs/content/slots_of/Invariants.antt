use Rattle.std.proofs.Common.{◌≡◌, ◌-◌}
use Rattle.ele_checkpoint.specs.PartsRead.{slots_at}
use Rattle.ele_checkpoint.proofs.Loops.{with_front}
use Rattle.ele_checkpoint.proofs.content.slots_of.Given as goal

abbrev pub invariant-loop-slot : goal.invariant-loop-slot
invariant-loop-slot l = with_front l.cells.items (slots_at l.base (l.count - l.slot) l.slot l.kept l.rest) ≡ slots_at l.base l.count 0 l.fn.kept l.bytes
