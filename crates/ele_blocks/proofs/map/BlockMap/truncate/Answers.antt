use Rattle.ele_blocks.proofs.Cited.{arith, grown, resized_same, ◌≡◌}
use Rattle.ele_blocks.proofs.map.BlockMap.truncate.Goals as goal

pub returns-in_ok-write-clause-resized : goal.returns-in_ok-write-clause-resized
returns-in_ok-write-clause-resized c = grown c.args.store.now c.write.new.store c.args.self.now c.write.new.self c.args.writer c.args.size c.requires.lives (omega arith) c.in_ok-write.ensures.written

pub returns-else-size-length-2-clause-resized : goal.returns-else-size-length-2-clause-resized
returns-else-size-length-2-clause-resized c = let stays : c.args.size ≡ c.args.self.now.size = omega arith in rw stays (resized_same c.args.store.now c.args.self.now c.args.writer c.requires.lives)
