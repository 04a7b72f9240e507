use Rattle.std.proofs.Common.{◌++◌, ◌∙◌, sym}
use Rattle.ele_checkpoint.specs.Checkpoint.{head}
use Rattle.ele_checkpoint.specs.Whole.{whole_text}
use Rattle.ele_checkpoint.proofs.Checkpoints.{read_alone, read_told, sealed_once}
use Rattle.ele_checkpoint.proofs.checkpoint.read.Goals as goal

pub returns-in-Ok-inside-clause-only : goal.returns-in-Ok-inside-clause-only
returns-in-Ok-inside-clause-only c = λ flat fits e.
    c.in-Ok-inside.ensures.only flat fits (sealed_once c.in-Ok.body.now (head ++ whole_text flat) (sym c.in-Ok.ensures.found ∙ e))

pub returns-in-Err-inside-clause-only : goal.returns-in-Err-inside-clause-only
returns-in-Err-inside-clause-only c = λ flat fits e.
    read_told flat c.in-Err-inside.stop c.told-in-Err-inside.result c.told-in-Err-inside.ensures (c.in-Err-inside.ensures.only flat fits (sealed_once c.in-Ok.body.now (head ++ whole_text flat) (sym c.in-Ok.ensures.found ∙ e)))

pub returns-in-Ok-inside-clause-alone : goal.returns-in-Ok-inside-clause-alone
returns-in-Ok-inside-clause-alone c = λ flat after more fits e.
    read_alone c.args.bytes.now c.in-Ok.body.now c.in-Ok-inside.flat flat after more c.in-Ok.ensures.found c.in-Ok-inside.ensures.alone fits e
