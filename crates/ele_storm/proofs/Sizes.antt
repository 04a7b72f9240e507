-- How many events rounds have, added up.
use Rattle.std.proofs.Common.{◌≡◌, ℕ, zero, suc, ◌+◌, ◌*◌, ◌<◌, List, length, refl, sym, ap, ◌∙◌, arith, length-append}
use Rattle.std.proofs.lemmas.List.{length-map}
use Rattle.std.proofs.Math.Nat.{mul-suc}
use Rattle.std.proofs.lemmas.Bool.Decides.{nat_tests}
use Rattle.ele_storm_plan.specs.declared.plan.StormPlan.{StormPlan}
use Rattle.ele_storm.specs.Halves.{size_before}
use Rattle.ele_model.specs.declared.entry.Entry.{Entry}
use Rattle.ele_storm_plan.specs.declared.plan.Task.{Task}
use Rattle.ele_storm_plan.specs.declared.plan.Task.TheVariants.{Writer, Historian, Cleaner}
use Rattle.ele_storm_plan.specs.Plan.{storm_events, task_of, workers_of}
use Rattle.ele_storm.specs.Rounds.{AreRounds, handle_of, round_events, round_size}

pub add-mul : (a b n : ℕ) → (a + b) * n ≡ a * n + b * n
add-mul a b zero = omega arith
add-mul a b (suc n) = omega (arith, mul-suc (a + b) n, mul-suc a n, mul-suc b n, add-mul a b n)

size_next : (plan : StormPlan) (worker : ℕ) → worker < workers_of plan → size_before plan (worker + 1) ≡ size_before plan worker + round_size (task_of plan worker)
size_next plan worker is = grind (arith, nat_tests)

-- the rounds of the workers up to this one have so many events more with it
pub events_next : (plan : StormPlan) (worker : ℕ) → worker < workers_of plan
    → size_before plan (worker + 1) * plan.rounds ≡ size_before plan worker * plan.rounds + round_size (task_of plan worker) * plan.rounds
events_next plan worker is = ap (λ n. n * plan.rounds) (size_next plan worker is) ∙ add-mul (size_before plan worker) (round_size (task_of plan worker)) plan.rounds

pub sizes_together : (w h n : ℕ) → (4 * w + 2 * h + 1) * n ≡ 4 * w * n + 2 * h * n + n
sizes_together w h n = omega (arith, add-mul (4 * w + 2 * h) 1 n, add-mul (4 * w) (2 * h) n)

-- those of all workers, with what is run before
pub events_of_all : (plan : StormPlan) → 1 + plan.writers + size_before plan (workers_of plan) * plan.rounds ≡ storm_events plan
events_of_all plan =
    let size : size_before plan (workers_of plan) ≡ 4 * plan.writers + 2 * plan.historians + 1 = omega arith in
    rw size (omega (arith, sizes_together plan.writers plan.historians plan.rounds))

pub none_before : (plan : StormPlan) → size_before plan 0 * plan.rounds ≡ 0
none_before plan =
    let none : size_before plan 0 ≡ 0 = omega arith in
    rw none (omega arith)

length-round_events : (writers : ℕ) (task : Task) (round handle : ℕ) → length (round_events writers task round handle) ≡ round_size task
length-round_events writers (Writer writer) round handle = refl
length-round_events writers (Historian historian) round handle = refl
length-round_events writers Cleaner round handle = refl

-- rounds have as many entries as events
pub length-rounds : (writers : ℕ) (task : Task) (rounds : ℕ) (entries : List Entry) → AreRounds writers task rounds entries → length entries ≡ round_size task * rounds
length-rounds writers task zero entries none = rw none (omega arith)
length-rounds writers task (suc round) entries (before, last, are, rounds, one) =
    let some : length before ≡ round_size task * round = length-rounds writers task round before rounds in
    let more : length last ≡ round_size task = sym (length-map last (λ (entry : Entry). entry.event)) ∙ (ap length one ∙ length-round_events writers task round (handle_of last)) in
    rw are (omega (arith, length-append before last, mul-suc (round_size task) round))
