use Rattle.std.proofs.Common.{◌∙◌}
use Rattle.ele_output.proofs.Known.{puts_as, puts_then}
use Rattle.ele_reasons.proofs.reasons.put_hint.Goals as goal

pub returns-in-Instead : goal.returns-in-Instead
returns-in-Instead g c =
    rw c.in-Instead.is (puts_then c.put.ensures (puts_as (c.as_bytes.ensures.value ∙ c.first_word.ensures) c.put-in-Instead.ensures))
