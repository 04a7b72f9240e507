-- What a seat knows after a worker.
use Rattle.std.specs.Prelude.{◌≡◌, ℕ, List, ◌++◌, length}
use Rattle.ele_shared_history.specs.declared.ledger.Call.{Call}
use Rattle.ele_shared_history.specs.Knowledge.{Knowledge}
use Rattle.ele_shared_history.specs.Running.{entries_of, StartsWith}
use Rattle.ele_model.specs.declared.entry.Entry.{Entry}
use Rattle.ele_shared_history.specs.Calling.{SeesFull}
use Rattle.ele_storm_plan.specs.declared.fault.StormFault.{StormFault}
use Rattle.ele_storm_plan.specs.declared.fault.StormFault.TheVariants as fault
use Rattle.ele_storm_plan.specs.declared.plan.StormPlan.{StormPlan}
use Rattle.ele_storm_plan.specs.Plan.{task_of}
use Rattle.ele_storm.specs.Rounds.{AreRounds}

-- the seat has seen no less, and is the same seat
pub record SeesMore (before after : Knowledge) : Type 0 where
  pub object : after.object ≡ before.object
  pub numbers : after.numbers ≡ before.numbers
  pub view : StartsWith after.view before.view
  pub own : StartsWith after.own before.own

-- after its own calls the seat has exactly these entries
abbrev pub AddsCalls : Knowledge → List Entry → Knowledge → Type 0
AddsCalls before entries after = (calls : List Call) × (after.own ≡ before.own ++ calls) × (entries_of calls ≡ entries)

-- the seat has made so many events, which are exactly those of all rounds of the worker
abbrev pub Works : StormPlan → ℕ → Knowledge → ℕ → Knowledge → Type 0
Works plan worker before count after =
    (entries : List Entry) × AddsCalls before entries after × AreRounds plan.writers (task_of plan worker) plan.rounds entries × (count ≡ length entries)

-- what the seat knows if calls end by this: the history is full, or memory was refused
abbrev pub StopsWorker : StormFault → Knowledge → Type 0
StopsWorker fault.NoMemory after = Unit {0}
StopsWorker fault.HistoryFull after = SeesFull after
StopsWorker fault.NoThread after = ⊥
StopsWorker fault.Alone after = ⊥

-- the same for a worker, which makes no call if it arrived alone
abbrev pub FailsWorker : StormFault → Knowledge → Knowledge → Type 0
FailsWorker fault.Alone before after = after ≡ before
FailsWorker fault before after = StopsWorker fault after
