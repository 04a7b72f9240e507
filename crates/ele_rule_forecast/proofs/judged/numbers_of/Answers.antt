use Rattle.ele_rule_forecast.proofs.Verdicts.{numbers_more}
use Rattle.ele_rule_forecast.proofs.judged.numbers_of.Goals as goal

pub loop-place-preserved : goal.loop-place-preserved
loop-place-preserved c =
    numbers_more c.args.reasons.now c.loop-place.place c.reason_at.result c.loop-place.numbers.items c.add_if_kept.new.numbers.items _ c.loop-place-test.true c.reason_at.ensures c.loop-place.invariant c.in_ok-add_if_kept.ensures
