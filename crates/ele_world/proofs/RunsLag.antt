-- The law of the schedule: along a run the world that is cleaned lags behind the one that isn't.
use Rattle.ele_model.proofs.Basics.{◌≡◌, ◌||◌, ℕ, true, false, not, List, [], ◌∷◌, refl, sym, subst, ◌∙◌, all-any, filter-all, arith, nat_tests, filter, cond, AllByRecursion, false≢true}
use Rattle.ele_model.proofs.Words.{IsEvent, IsPass, HasParts, World, asks, kept_rows, run_of, step}
use Rattle.ele_world.proofs.Words.{CleanOne, Event, Reply, Target, File, Directory}
use Rattle.ele_world.specs.Lags.{Lags}
use Rattle.ele_world.specs.Less.{less, is_dropped}
use Rattle.ele_world.specs.PlainEvents.{is_clean, is_plain}
use Rattle.ele_world.specs.Schedule.{change_replies}
use Rattle.ele_world.proofs.CleanLags.{clean_lags, parts_same}
use Rattle.ele_world.proofs.EventLags.{event_lags}
use Rattle.ele_world.proofs.LagsKeeps.{lags_keeps}
use Rattle.ele_model.proofs.PassEnds.{pass_leaves_kept}
use Rattle.ele_model.proofs.StepKeeps.{step_keeps}

abbrev IsOfRun : Event → Type 0
IsOfRun event = IsEvent event × ((is_clean event || is_plain event) ≡ true)

abbrev others : List Event → List Event
others events = filter (λ event. not (is_clean event)) events

-- the runs with the cleans and without them
record RunsLag (u v : World) (replies : List Reply) (rest : List Reply) : Type 0 where
  lags : Lags u v
  formed : HasParts u
  other : HasParts v
  same : replies ≡ rest

clean_is : (event : Event) → is_clean event ≡ true → CleanOne ≡ event
clean_is CleanOne is = refl
clean_is event is = absurd (false≢true is)

replies_on : (event : Event) (r s : Reply) (rs ss : List Reply) → (asks event ≡ false → r ≡ s) → rs ≡ ss → cond (asks event) rs (r ∷ rs) ≡ cond (asks event) ss (s ∷ ss)
replies_on event r s rs ss same rest = grind (arith, nat_tests, same, rest)

runs_lag : (u v : World) (events : List Event) → AllByRecursion IsOfRun events → HasParts u → HasParts v → Lags u v → RunsLag (run_of u events) (run_of v (others events)) (change_replies u events) (change_replies v (others events))
runs_lag u v [] are formed k lags = record { lags = lags; formed = formed; other = k; same = refl }
runs_lag u v (event ∷ events) are formed k lags =
    elim (is_clean event) as (λ b. is_clean event ≡ b → RunsLag (run_of ((step u event).1) events) (run_of v (cond (not b) (event ∷ others events) (others events))) (cond (b || asks event) (change_replies ((step u event).1) events) ((step u event).0 ∷ change_replies ((step u event).1) events)) (change_replies v (cond (not b) (event ∷ others events) (others events)))) [
      | true ↦ λ e. runs_lag ((step u event).1) v events are.1 (step_keeps u event are.0.0 formed) k (subst (λ (c : Event). Lags ((step u c).1) v) (clean_is event e) (clean_lags u v formed k lags))
      | false ↦ λ e.
          let plain : is_plain event ≡ true = grind (arith, nat_tests, are.0.1, e) in
          let made = event_lags u v event are.0.0 plain formed k lags in
          let rest = runs_lag ((step u event).1) ((step v event).1) events are.1 (step_keeps u event are.0.0 formed) (step_keeps v event are.0.0 k) made.lags in
          record {
            lags = rest.lags;
            formed = rest.formed;
            other = rest.other;
            same = rw e (replies_on event ((step u event).0) ((step v event).0) (change_replies ((step u event).1) events) (change_replies ((step v event).1) (others events)) made.reply rest.same);
          }
    ] refl

-- a world lags behind itself
stays_for : (target : Target) → not (is_dropped (λ file. false) target) ≡ true
stays_for (File file) = refl
stays_for (Directory id) = refl

itself : (w : World) → w.groups ≡ [] → Lags w w
itself w none = record { gone = λ file number. false; dropped = λ file. false; is = sym same; due = λ file number no. absurd (false≢true no); emptied = λ file no. absurd (false≢true no); ungrouped = none } where
  same : less (λ file number. false) (λ file. false) w ≡ w
  same = parts_same w _ w.files _ w.names _ w.versions
      (filter-all (λ row. true) w.files (all-any (λ row. true ≡ true) w.files (λ row. refl)))
      (filter-all (λ row. not (is_dropped (λ file. false) row.target)) w.names (all-any (λ row. not (is_dropped (λ file. false) row.target) ≡ true) w.names (λ row. stays_for row.target)))
      (filter-all (λ row. true) w.versions (all-any (λ row. true ≡ true) w.versions (λ row. refl)))

pub schedule : (w : World) (events : List Event) → HasParts w → w.groups ≡ [] → AllByRecursion IsOfRun events
    → (change_replies w events ≡ change_replies w (others events))
    × ((removed : ℕ) (after : World) → IsPass (run_of w events) removed after → after.versions ≡ kept_rows (run_of w (others events)))
schedule w events k none are =
    let runs = runs_lag w w events are k k (itself w none) in (
      runs.same,
      λ removed after pass. pass_leaves_kept (run_of w events) removed after runs.formed pass ∙ (lags_keeps (run_of w events) (run_of w (others events)) runs.formed runs.other runs.lags).0,
    )
