-- Which storm the matches of `storm` ask for.
use Rattle.std.specs.Prelude.{List, codes}
use Rattle.ele_storm_plan.specs.declared.plan.StormPlan.{StormPlan}
use Rattle.ele_invocation.specs.Matches.{HasNumber}
use Rattle.clap.specs.Words.{Row}

-- the storm with these three numbers, which are in the bounds of a plan
pub record AsksStorm (rows : List Row) (plan : StormPlan) : Type 0 where
  pub writers : HasNumber (codes "writers") rows plan.writers
  pub historians : HasNumber (codes "historians") rows plan.historians
  pub rounds : HasNumber (codes "rounds") rows plan.rounds
