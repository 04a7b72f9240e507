-- What a seat knows after a storm: the calls that prepare it, and those of all workers.
use Rattle.std.specs.Prelude.{◌≡◌, ℕ, zero, suc, List, [], ◌∷◌, ◌++◌, ◌⊎◌}
use Rattle.ele_history.specs.Past.{events_of}
use Rattle.ele_model.specs.declared.entry.Entry.{Entry}
use Rattle.ele_model.specs.declared.event.Event.{Event}
use Rattle.ele_model.specs.declared.event.Event.TheVariants.{Create, SetDefault}
use Rattle.ele_policy.specs.declared.policy.Policy.{Policy}
use Rattle.ele_policy.specs.declared.policy.Policy.TheVariants.{Landmarks}
use Rattle.ele_storm_plan.specs.declared.plan.StormPlan.{StormPlan}
use Rattle.ele_storm_plan.specs.Plan.{task_of, workers_of}
use Rattle.ele_storm.specs.Rounds.{AreRounds, file_of}

-- this policy lets versions come and go within a few rounds
abbrev pub storm_policy : Policy
storm_policy = Landmarks ((3, 2) ∷ (10, 10) ∷ [])

-- a file for each of so many writers
abbrev pub creates : ℕ → List Event
creates zero = []
creates (suc writers) = creates writers ++ Create (file_of (suc writers)) ∷ []

-- the events that prepare a storm: the root's policy, and a file for each writer
abbrev pub prepared : StormPlan → List Event
prepared plan = SetDefault [] storm_policy ∷ creates plan.writers

-- the last list interleaves the two others: it has exactly their elements, and those of each in their order
abbrev pub IsWoven : {A : Type 0} → List A → List A → List A → Type 0
IsWoven xs ys [] = (xs ≡ []) × (ys ≡ [])
IsWoven {A} xs ys (z ∷ zs) =
    ((rest : List A) × (xs ≡ z ∷ rest) × IsWoven rest ys zs) ⊎ ((rest : List A) × (ys ≡ z ∷ rest) × IsWoven xs rest zs)

-- the entries interleave the rounds of so many workers, from this number on
abbrev pub AreOfWorkers : StormPlan → ℕ → ℕ → List Entry → Type 0
AreOfWorkers plan from zero entries = entries ≡ []
AreOfWorkers plan from (suc count) entries =
    (first others : List Entry) × IsWoven first others entries × AreRounds plan.writers (task_of plan from) plan.rounds first × AreOfWorkers plan (suc from) count others

-- after its own calls, which may be none yet, a seat has those of a whole storm: the ones that prepare it, interleaved with those of all
-- workers
pub record AddsStorm (plan : StormPlan) (before : List Entry) (after : List Entry) : Type 0 where
  pub ready : List Entry
  pub worked : List Entry
  pub makes_ready : events_of ready ≡ prepared plan
  pub work : AreOfWorkers plan 0 (workers_of plan) worked
  pub woven : IsWoven (before ++ ready) worked after
