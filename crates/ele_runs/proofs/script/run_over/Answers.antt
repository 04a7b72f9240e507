use Rattle.ele_runs.proofs.Basics.{ℕ, List, Option, Some, None}
use Rattle.ele_runs.proofs.Words.{Outlet, Past, begun, plain}
use Rattle.ele_runs.specs.Telling.{HasTold, ToldPlain, ToldToTheEnd, Writes}
use Rattle.ele_runs.specs.declared.end.EndLine.{EndLine}
use Rattle.ele_runs.specs.declared.tally.Tally.{Tally}
use Rattle.ele_runs.proofs.script.run_over.Goals as goal

-- no line ends a run without options
unended : (start : Past) (before after : Outlet) (input rest : Option (List ℕ)) (n : ℕ) (ended_by : Option EndLine) (tally : Tally) (text : List ℕ) → HasTold (begun plain start before) input rest after n ended_by tally text
    → ToldToTheEnd (begun plain start before) n input rest after text
unended start before after input rest n None tally text ran = ran.0
unended start before after input rest n (Some end) tally text ran = absurd (let never = ran.strict in cc)

all_told : (start : Past) (before after : Outlet) (input rest old new : Option (List ℕ)) (n : ℕ) (ended_by : Option EndLine) (tally : Tally) → Writes (HasTold (begun plain start before) input rest after n ended_by tally) old new
    → Writes (ToldPlain start n input rest) old new
all_told start before after input rest old new n ended_by tally is =
    record { text = is.text; told = (before, after, unended start before after input rest n ended_by tally is.text is.told); written = is.written }

pub returns-in-Ok-clause-ok : goal.returns-in-Ok-clause-ok
returns-in-Ok-clause-ok g c = all_told _ _ _ _ _ _ _ _ c.in-Ok.ran.ended_by c.in-Ok.ran.tally (rw c.plain.ensures at c.in-Ok.ensures.told)

pub returns-in-Err-clause-err : goal.returns-in-Err-clause-err
returns-in-Err-clause-err g c = (_, _, rw c.plain.ensures at c.in-Err.ensures.told)
