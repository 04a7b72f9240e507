use Rattle.ele_blocks.proofs.Words.{arith}
use Rattle.ele_blocks.proofs.placed.PlacedBlocks.put.Goals as goal

pub returns : goal.returns
returns c = λ other by. grind (arith, c.in_ok-_before.ensures.updates.0 (other, by), c.writer.view_is)
