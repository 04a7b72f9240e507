-- The workers of a storm, and how many events it runs.
use Rattle.std.specs.Prelude.{ℕ, ◌+◌, ◌-◌, ◌*◌, nat_lt, if◌then◌else◌}
use Rattle.ele_storm_plan.specs.declared.plan.StormPlan.{StormPlan}
use Rattle.ele_storm_plan.specs.declared.plan.Task.{Task}
use Rattle.ele_storm_plan.specs.declared.plan.Task.TheVariants.{Writer, Historian, Cleaner}

-- the number of workers: the writers, the historians and the cleaner
abbrev pub workers_of : StormPlan → ℕ
workers_of plan = plan.writers + plan.historians + 1

-- they are numbered from 0 on, in this order
abbrev pub task_of : StormPlan → ℕ → Task
task_of plan worker =
    if nat_lt worker plan.writers then Writer (worker + 1)
    else if nat_lt worker (plan.writers + plan.historians) then Historian (worker - plan.writers + 1)
    else Cleaner

-- how many events a whole storm runs: a policy and the files first, and then the rounds of each worker
abbrev pub storm_events : StormPlan → ℕ
storm_events plan =
    1 + plan.writers + 4 * plan.writers * plan.rounds + 2 * plan.historians * plan.rounds + plan.rounds
