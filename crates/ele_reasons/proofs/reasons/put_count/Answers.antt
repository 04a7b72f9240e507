use Rattle.std.proofs.Common.{ap, ◌∙◌}
use Rattle.ele_output.proofs.Known.{puts_as, puts_then}
use Rattle.ele_reasons.specs.ReasonText.{count_text, takes_text}
use Rattle.ele_reasons.proofs.reasons.put_count.Goals as goal

pub returns : goal.returns
returns g c =
    puts_then c.put.ensures (puts_then (puts_as (ap takes_text c.kinds.ensures) c.put_takes.ensures)
    (puts_as (c.as_bytes.ensures.value ∙ c.count_why.ensures ∙ ap (λ kinds. count_text kinds c.args.more) c.kinds-2.ensures) c.put-2.ensures))
