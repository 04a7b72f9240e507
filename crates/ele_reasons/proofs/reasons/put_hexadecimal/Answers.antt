use Rattle.std.proofs.Common.{◌∙◌}
use Rattle.ele_output.proofs.Known.{puts_as, puts_then}
use Rattle.ele_reasons.proofs.reasons.put_hexadecimal.Goals as goal

pub returns : goal.returns
returns g c =
    puts_then (puts_as (c.as_bytes.ensures.value ∙ c.hexadecimal_digit.ensures) c.put.ensures)
    (puts_as (c.as_bytes-2.ensures.value ∙ c.hexadecimal_digit-2.ensures) c.put-2.ensures)
