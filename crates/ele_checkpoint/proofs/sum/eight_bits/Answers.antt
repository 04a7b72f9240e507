use Rattle.std.proofs.Common.{◌∙◌, sym}
use Rattle.ele_checkpoint.proofs.Sums.{times_step, times_end}
use Rattle.ele_checkpoint.proofs.sum.eight_bits.Goals as goal

pub loop-preserved : goal.loop-preserved
loop-preserved c = sym (times_step 8 c.loop.counter c.loop.state c.shifted-state.result c.loop-test.true c.shifted-state.ensures) ∙ c.loop.invariant

pub returns : goal.returns
returns c = sym (times_end 8 c.loop.counter c.loop.state c.loop-test.false) ∙ c.loop.invariant
