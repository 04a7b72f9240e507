use Rattle.std.proofs.Common.{sym}
use Rattle.ele_invocation.proofs.Asked.{run_or_not, run_refused}
use Rattle.std.proofs.lemmas.Option.{none-some}
use Rattle.ele_invocation.proofs.run.asked_run.Goals as goal

pub returns-in-Some-number_in : goal.returns-in-Some-number_in
returns-in-Some-number_in c =
    run_or_not _ c.in-Some-number_in.events c.options_in.result c.run_with.result (sym c.in-None.ensures) c.in-Some-number_in.ensures.found c.in-Some-number_in.ensures.only
    c.options_in.ensures c.run_with.ensures.run c.run_with.ensures.refused c.run_with.ensures.either

pub returns-in-None-number_in : goal.returns-in-None-number_in
returns-in-None-number_in c =
    run_refused _ _ c.not_understood-in-None-number_in.ensures (λ n asks. none-some n (c.in-None-number_in.ensures.only n asks.events_are))
