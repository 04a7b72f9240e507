use Rattle.ele_storm.specs.Making.{RunsRounds}
use Rattle.ele_storm.specs.Work.{SeesMore}
use Rattle.ele_storm.proofs.worker.run_rounds.Given as goal

abbrev pub invariant-loop-round : goal.invariant-loop-round
invariant-loop-round g l = RunsRounds l.plan.writers l.task l.round l.fn.seat l.seat × SeesMore l.fn.seat l.seat
