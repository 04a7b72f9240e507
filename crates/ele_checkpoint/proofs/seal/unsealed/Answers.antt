use Rattle.std.proofs.Common.{◌∙◌, ap, arith}
use Rattle.std.specs.Int.{w32, to_be_bytes}
use Rattle.ele_checkpoint.specs.Sum.{sum}
use Rattle.ele_checkpoint.proofs.Checkpoints.{sealed_is}
use Rattle.ele_checkpoint.proofs.seal.unsealed.Goals as goal

pub returns-clause-found : goal.returns-clause-found
returns-clause-found c =
    sealed_is c.args.bytes.now c.split_at.result.0.now c.split_at.result.1.now c.split_at-2.result.0.now c.split_at-2.result.1.now (omega arith) c.split_at.ensures.front c.split_at.ensures.back c.split_at-2.ensures.front c.split_at-2.ensures.back
    (c.is_same.ensures.0 c.if-not-is_same.false ∙ c.to_be_bytes-wanted.ensures)
    (c.is_same-2.ensures.0 c.if-not-is_same-2.false ∙ c.to_be_bytes-found.ensures ∙ ap (to_be_bytes w32) (c.crc32c.ensures ∙ ap sum c.split_at-3.ensures.front))
