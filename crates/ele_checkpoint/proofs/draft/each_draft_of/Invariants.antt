use Rattle.std.proofs.Common.{◌≡◌, ◌-◌}
use Rattle.ele_checkpoint.specs.PartsRead.{draft_at, items_at}
use Rattle.ele_checkpoint.proofs.Loops.{with_front}
use Rattle.ele_checkpoint.proofs.draft.each_draft_of.Given as goal

abbrev pub invariant-loop : goal.invariant-loop
invariant-loop l = with_front l.made.items (items_at (draft_at l.rows) (l.count - l.counter) l.rest) ≡ items_at (draft_at l.rows) l.count l.bytes
