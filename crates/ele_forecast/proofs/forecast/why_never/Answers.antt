use Rattle.std.proofs.Common.{Some}
use Rattle.ele_policy.specs.RipeCase.{case_of}
use Rattle.ele_forecast.proofs.Ages.{goes_at_some, stays_at_all}
use Rattle.ele_forecast.proofs.forecast.why_never.Goals as goal

pub returns-in-Some : goal.returns-in-Some
returns-in-Some c = goes_at_some (case_of c.args.policy.now c.args.closed (Some c.args.next_closed) c.args.floor_met) c.in-Some.age c.lemma_in_range.ensures c.in-Some.ensures.from_then

pub returns-in-None : goal.returns-in-None
returns-in-None c = stays_at_all (case_of c.args.policy.now c.args.closed (Some c.args.next_closed) c.args.floor_met) c.in-None.ensures.never
