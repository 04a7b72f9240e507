use Rattle.std.proofs.Common.{◌<◌, ◌∙◌, length, arith}
use Rattle.std.proofs.lemmas.List.{length-set}
use Rattle.ele_checkpoint.proofs.Sums.{filled_more}
use Rattle.ele_checkpoint.proofs.sum.table.Goals as goal

pub loop-byte-preserved : goal.loop-byte-preserved
loop-byte-preserved c =
    let many = c.loop-byte.invariant.0 in
    let within : c.loop-byte.byte < length c.loop-byte.table = omega arith in
    (length-set c.loop-byte.table c.loop-byte.byte c.eight_bits.result ∙ many, filled_more c.loop-byte.table c.loop-byte.byte c.eight_bits.result within c.eight_bits.ensures c.loop-byte.invariant.1)
