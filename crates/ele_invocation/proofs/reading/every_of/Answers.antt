use Rattle.ele_invocation.proofs.Spelled.{only_form}
use Rattle.ele_invocation.proofs.reading.every_of.Goals as goal

pub returns-in-Some-clause-only : goal.returns-in-Some-clause-only
returns-in-Some-clause-only c form is =
    rw c.over_time.ensures (only_form c.args.csv c.args.word.now c.in-Some.step form (rw c.as_bytes.ensures.value at c.in-Some.ensures.only) is)
