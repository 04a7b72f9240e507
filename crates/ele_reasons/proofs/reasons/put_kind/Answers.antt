use Rattle.std.proofs.Common.{◌∙◌}
use Rattle.ele_output.proofs.Known.{puts_as}
use Rattle.ele_reasons.proofs.reasons.put_kind.Goals as goal

pub returns : goal.returns
returns g c = puts_as (c.as_bytes.ensures.value ∙ c.kind_name.ensures) c.put.ensures
