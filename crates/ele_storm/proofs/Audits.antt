-- The result of a storm over a history of its own.
use Rattle.std.proofs.Common.{◌≡◌, ℕ, ◌+◌, Bool, IsTrue, List, [], ◌∷◌, ◌++◌, length, ap, subst, ◌∙◌, arith}
use Rattle.ele_history.specs.Legal.{IsLegal}
use Rattle.ele_history.specs.Past.{Past, world_of}
use Rattle.ele_shared_history.specs.Closing.{Closes}
use Rattle.ele_shared_history.specs.Knowledge.{Knowledge, Object}
use Rattle.ele_shared_history.specs.declared.ledger.Call.{Call}
use Rattle.ele_shared_history.specs.Running.{continued, entries_of}
use Rattle.ele_shared_history.specs.Seats.{AreNew, IsNew}
use Rattle.ele_model.specs.Bounds.{Bounds}
use Rattle.ele_storm_plan.specs.declared.plan.StormPlan.{StormPlan}
use Rattle.ele_model.specs.declared.entry.Entry.{Entry}
use Rattle.ele_storm.specs.Audited.{IsAudited, IsBegun}
use Rattle.ele_storm_plan.specs.Plan.{storm_events}
use Rattle.ele_storm.specs.Storm.{AddsStorm, IsWoven}
use Rattle.ele_storm.proofs.Weaving.{own_is_woven}
use Rattle.ele_shared_history.proofs.Histories.{length-entries_of, own_is_short}

-- the last of a row of new seats is one
pub last_is_new : (object : Object) (ns : List ℕ) (ks : List Knowledge) (k : Knowledge) → AreNew object ns (ks ++ k ∷ []) → (n : ℕ) × IsNew object n k
last_is_new object (n ∷ ns) [] k new = (n, new.0)
last_is_new object [] [] k new = absurd new
last_is_new object (n ∷ ns) (l ∷ ks) k new = last_is_new object ns ks k new.1
last_is_new object [] (l ∷ ks) k new = absurd new

-- the closed history holds the storm's calls, by which the last seat has all that were made
pub audited : (limits : Bounds) (plan : StormPlan) (after : Past) (events : ℕ) (equal : Bool) (object : Object) (first last : Knowledge) → IsBegun limits object first → events ≡ storm_events plan
    → length last.own ≡ length first.own + events → AddsStorm plan (entries_of first.own) (entries_of last.own) → Closes object.opening last after → IsTrue equal → IsAudited limits plan after events equal
audited limits plan after events equal object first last begun count more storm closes all =
    let others : (others : List Entry) × IsWoven (entries_of last.own) others (entries_of closes.log) =
    subst (λ (l : List Call). (others : List Entry) × IsWoven (entries_of l) others (entries_of closes.log)) closes.own (own_is_woven last.numbers closes.log) in
    record {
      count = count;
      entries = entries_of closes.log;
      are = closes.after ∙ ap (λ (p : Past). continued p (entries_of closes.log)) begun.opening;
      legal = subst (λ (p : Past). IsLegal (world_of p) (entries_of closes.log)) begun.opening closes.legal;
      stand = omega (arith, more, ap length begun.own, ap length closes.own, own_is_short last.numbers closes.log, length-entries_of closes.log);
      storm = entries_of last.own;
      runs = subst (λ (l : List Call). AddsStorm plan (entries_of l) (entries_of last.own)) begun.own storm;
      others = others.0;
      woven = others.1;
      is_equal = all;
    }
