use Rattle.std.proofs.Common.{◌∙◌}
use Rattle.ele_output.proofs.Known.{puts_as, puts_then}
use Rattle.ele_change_text.proofs.text.put_kind.Goals as goal

pub returns : goal.returns
returns g c = puts_then c.put.ensures (puts_as (c.as_bytes.ensures.value ∙ c.kind_word.ensures) c.put-2.ensures)
