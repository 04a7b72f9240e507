use Rattle.ele_blocks.proofs.Words.{arith}
use Rattle.ele_blocks.proofs.store.making.take_block.Goals as goal

pub returns-in-Shared-clause-room : goal.returns-in-Shared-clause-room
returns-in-Shared-clause-room c more room = c.share.ensures.room more (omega (arith, room))
