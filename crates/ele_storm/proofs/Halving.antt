-- What the workers of a storm leave their seat, from one of them to all.
use Rattle.std.proofs.Common.{◌≡◌, ℕ, zero, suc, ◌+◌, ◌*◌, ◌<◌, List, [], ◌∷◌, ◌++◌, length, refl, sym, ap, subst, ◌∙◌, arith, length-append, Result, Ok, Err}
use Rattle.std.specs.Result.{result_and}
use Rattle.ele_shared_history.specs.Knowledge.{Knowledge}
use Rattle.ele_shared_history.specs.declared.ledger.Call.{Call}
use Rattle.ele_shared_history.specs.Running.{entries_of, entry}
use Rattle.ele_model.specs.declared.event.Event.{Event}
use Rattle.ele_shared_history.specs.Seats.{Joined}
use Rattle.ele_shared_history.proofs.Histories.{entries_of-append, length-entries_of}
use Rattle.ele_model.specs.declared.entry.Entry.{Entry}
use Rattle.ele_storm_plan.specs.declared.fault.StormFault.{StormFault}
use Rattle.ele_storm_plan.specs.declared.plan.StormPlan.{StormPlan}
use Rattle.ele_storm.specs.Halves.{RunsWorkers, size_before}
use Rattle.ele_storm_plan.specs.Plan.{storm_events, task_of, workers_of}
use Rattle.ele_storm.specs.Rounds.{AreRounds, round_size}
use Rattle.ele_storm.specs.Storm.{AddsStorm, AreOfWorkers, IsWoven, prepared}
use Rattle.ele_storm.specs.Making.{Makes, MakesOne, RunsRounds}
use Rattle.ele_storm.specs.Work.{AddsCalls, SeesMore, Works}
use Rattle.ele_storm_plan.specs.declared.plan.Task.{Task}
use Rattle.ele_storm.proofs.Counts.{calls_of_both}
use Rattle.ele_storm.proofs.Sizes.{events_next, events_of_all, length-rounds, none_before}
use Rattle.ele_storm.proofs.Weaving.{calls_are_woven, weaves_out, woven_alone, woven_none}
use Rattle.ele_storm.proofs.Works.{starts_trans}

-- as many calls as entries
pub length-added : (a b : Knowledge) (entries : List Entry) → AddsCalls a entries b → length b.own ≡ length a.own + length entries
length-added a b entries (calls, own, are) =
    ap length own ∙ (length-append a.own calls ∙ ap (λ n. length a.own + n) (sym (length-entries_of calls) ∙ ap length are))

-- the workers of one part and those of the next are those of both
pub workers_of_both : (plan : StormPlan) (from count more : ℕ) (xs ys zs : List Entry) → AreOfWorkers plan from count xs → AreOfWorkers plan (from + count) more ys → IsWoven xs ys zs → AreOfWorkers plan from (count + more) zs
workers_of_both plan from zero more xs ys zs none all woven =
    let is : zs ≡ ys = woven_none ys zs (subst (λ (l : List Entry). IsWoven l ys zs) none woven) in
    let first : from + 0 ≡ from = omega arith in
    let many : 0 + more ≡ more = omega arith in
    subst (λ (n : ℕ). AreOfWorkers plan from n zs) (sym many)
    (subst (λ (l : List Entry). AreOfWorkers plan from more l) (sym is) (subst (λ (n : ℕ). AreOfWorkers plan n more ys) first all))
workers_of_both plan from (suc count) more xs ys zs some all woven =
    let rest = weaves_out some.0 some.1 xs ys zs some.2 woven in
    let first : from + suc count ≡ suc from + count = omega arith in
    let many : suc (count + more) ≡ suc count + more = omega arith in
    let behind = workers_of_both plan (suc from) count more some.1 ys rest.0 some.4 (subst (λ (n : ℕ). AreOfWorkers plan n more ys) first all) rest.1 in
    subst (λ (n : ℕ). AreOfWorkers plan from n zs) many (some.0, rest.0, rest.2, some.3, behind)

-- the calls of two parts are those of both, if the seat had none
calls_run : (plan : StormPlan) (from count more : ℕ) (a b o c d : Knowledge) → (a.own ≡ [] → AreOfWorkers plan from count (entries_of b.own)) → (o.own ≡ [] → AreOfWorkers plan (from + count) more (entries_of c.own)) → Joined b c d → o.own ≡ []
    → a.own ≡ [] → AreOfWorkers plan from (count + more) (entries_of d.own)
calls_run plan from count more a b o c d p q j none empty =
    workers_of_both plan from count more (entries_of b.own) (entries_of c.own) (entries_of d.own) (p empty) (q none) (calls_are_woven b c d j)

pub halves_run : (plan : StormPlan) (from count more : ℕ) (a b o c d : Knowledge) (x y : Result (Unit {0}) StormFault) → RunsWorkers plan from count a b x → RunsWorkers plan (from + count) more o c y → Joined b c d → o.own ≡ []
    → RunsWorkers plan from (count + more) a d (result_and x y)
halves_run plan from count more a b o c d (Ok _) (Ok _) p q j none =
    let upto : from + count + more ≡ from + (count + more) = omega arith in
    record {
      object = j.object ∙ p.object;
      view = starts_trans d.view b.view a.view j.view_first p.view;
      own = rw (sym upto) (omega (arith, p.own, q.own, ap length none, calls_of_both b c d j));
      calls = calls_run plan from count more a b o c d p.calls q.calls j none;
    }
halves_run plan from count more a b o c d (Ok _) (Err e) p q j none = record { object = j.object ∙ p.object; view = starts_trans d.view b.view a.view j.view_first p.view; own = tt; calls = λ empty. tt }
halves_run plan from count more a b o c d (Err e) y p q j none = record { object = j.object ∙ p.object; view = starts_trans d.view b.view a.view j.view_first p.view; own = tt; calls = λ empty. tt }

-- if a seat had no calls, those that it made are all
only_added : (a b : Knowledge) (entries : List Entry) → AddsCalls a entries b → a.own ≡ [] → entries_of b.own ≡ entries
only_added a b entries (calls, own, are) empty = ap entries_of (own ∙ ap (λ (l : List Call). l ++ calls) empty) ∙ are

-- as many more as events
pub length-made : (e : Event) (a b : Knowledge) → MakesOne e a b → length b.own ≡ length a.own + 1
length-made e a b (r, adds) = length-added a b (entry e r ∷ []) adds

-- one worker
pub one_runs : (plan : StormPlan) (worker count : ℕ) (a b : Knowledge) → worker < workers_of plan → Works plan worker a count b → count ≡ round_size (task_of plan worker) * plan.rounds → SeesMore a b
    → RunsWorkers plan worker 1 a b (Ok (tt {0}))
one_runs plan worker count a b is (entries, adds, rounds, long) many goes = record {
  object = goes.object;
  view = goes.view;
  own = omega (arith, length-added a b entries adds, long, many, events_next plan worker is);
  calls = λ empty. (
    entries,
    [],
    subst (λ (l : List Entry). IsWoven entries [] l) (sym (only_added a b entries adds empty)) (woven_alone entries),
    rounds,
    refl,
  );
}

-- all rounds of a worker
pub all_rounds : (plan : StormPlan) (worker count : ℕ) (task : Task) (a b : Knowledge) → task ≡ task_of plan worker → count ≡ round_size task * plan.rounds → RunsRounds plan.writers task plan.rounds a b
    → Works plan worker a count b
all_rounds plan worker count task a b is many (entries, adds, rounds) = (
  entries,
  adds,
  subst (λ (t : Task). AreRounds plan.writers t plan.rounds entries) is rounds,
  many ∙ sym (length-rounds plan.writers task plan.rounds entries rounds),
)

-- what was run before, and then all workers by a seat of their own
pub all_run : (plan : StormPlan) (a b p q d : Knowledge) → length b.own ≡ length a.own + 1 + plan.writers → p.own ≡ []
    → length q.own + size_before plan 0 * plan.rounds ≡ length p.own + size_before plan (0 + workers_of plan) * plan.rounds → Joined b q d → length d.own ≡ length a.own + storm_events plan
all_run plan a b p q d first none all j =
    let upto : 0 + workers_of plan ≡ workers_of plan = omega arith in
    omega (arith, first, rw upto at all, ap length none, none_before plan, events_of_all plan, calls_of_both b q d j)

-- the calls of a whole storm
pub all_calls : (plan : StormPlan) (a b q d : Knowledge) → Makes (λ handle. prepared plan) a b → AreOfWorkers plan 0 (workers_of plan) (entries_of q.own) → Joined b q d → AddsStorm plan (entries_of a.own) (entries_of d.own)
all_calls plan a b q d (entries, (calls, own, are), made) work j =
    let first : entries_of b.own ≡ entries_of a.own ++ entries = ap entries_of own ∙ entries_of-append a.own calls ∙ ap (λ (l : List Entry). entries_of a.own ++ l) are in
    record {
      ready = entries;
      worked = entries_of q.own;
      makes_ready = made;
      work = work;
      woven = subst (λ (l : List Entry). IsWoven l (entries_of q.own) (entries_of d.own)) first (calls_are_woven b q d j);
    }
