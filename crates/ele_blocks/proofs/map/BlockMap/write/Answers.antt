use Rattle.ele_blocks.proofs.Cited.{arith, write_change, ◌/◌}
use Rattle.ele_blocks.proofs.map.BlockMap.write.Goals as goal

pub returns-clause-written : goal.returns-clause-written
returns-clause-written c =
    write_change c.args.store.now c.args.self.now c.args.writer c.args.offset (c.min-from.result / 512) c.args.bytes.now c.in_ok-staged.staged.items c.requires.lives (omega arith) c.in_ok-staged.ensures
    c.replace.new.store c.replace.new.self (omega (arith, c.in_ok-replace.ensures.size)) c.requires.fits (omega arith) (rw c.slots-kept.ensures at c.in_ok-replace.ensures.replaced)
