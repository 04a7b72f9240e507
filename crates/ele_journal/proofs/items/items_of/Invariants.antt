use Rattle.std.proofs.Common.{◌≡◌, ◌-◌}
use Rattle.ele_checkpoint.specs.PartsRead.{items_at}
use Rattle.ele_checkpoint.proofs.Loops.{with_front}
use Rattle.ele_journal.proofs.items.items_of.Given as goal

abbrev pub invariant-loop : goal.invariant-loop
invariant-loop g l = with_front l.items.items (items_at g.T.Item.reading (l.count - l.counter) l.rest) ≡ items_at g.T.Item.reading l.count l.bytes
