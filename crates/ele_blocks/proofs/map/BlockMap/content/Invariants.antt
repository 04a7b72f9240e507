use Rattle.ele_blocks.proofs.Words.{content_of, shown, take, ◌*◌, ◌≡◌}
use Rattle.ele_blocks.proofs.map.BlockMap.content.Given as goal

abbrev pub invariant-loop-slot : goal.invariant-loop-slot
invariant-loop-slot l = l.all.items ≡ take (512 * l.slot) (content_of (shown l.store l.self))
