use Rattle.ele_storm.proofs.Works.{goes_further, rounds_more}
use Rattle.ele_storm.proofs.worker.run_rounds.Goals as goal

pub loop-round-preserved : goal.loop-round-preserved
loop-round-preserved g c = (
  rounds_more c.args.plan.now.writers c.args.task c.loop-round.round c.args.seat.now c.loop-round.seat c.run_round.new.seat c.loop-round.invariant.0 c.in_ok-run_round.ensures.ok,
  goes_further c.args.seat.now c.loop-round.seat c.run_round.new.seat c.loop-round.invariant.1 c.in_ok-run_round.ensures.seen,
)
