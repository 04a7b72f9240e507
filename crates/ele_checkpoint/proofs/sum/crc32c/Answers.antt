use Rattle.std.proofs.Common.{◌∙◌, arith}
use Rattle.ele_checkpoint.proofs.Sums.{byte_more, byte_done}
use Rattle.ele_checkpoint.proofs.sum.crc32c.Goals as goal

pub loop-byte-preserved : goal.loop-byte-preserved
loop-byte-preserved c = byte_more c.table-table.result c.loop-byte.state c.args.bytes.now c.loop-byte.byte-index c.table-table.ensures c.loop-byte-test.true (omega (arith, c.type_inv.bytes c.loop-byte.byte-index)) ∙ c.loop-byte.invariant

pub returns : goal.returns
returns c = byte_done c.loop-byte.state c.args.bytes.now c.loop-byte.byte-index c.loop-byte-test.false c.loop-byte.invariant
