use Rattle.ele_blocks.proofs.Words.{content_after_write, content_of, pieces_between, shown, ◌≡◌}
use Rattle.ele_blocks.proofs.map.BlockMap.patches.Given as goal

abbrev pub invariant-loop-slot : goal.invariant-loop-slot
invariant-loop-slot l = l.staged.items ≡ pieces_between l.fn.first l.slot (content_after_write (content_of (shown l.store l.self)) l.fn.offset l.bytes)
