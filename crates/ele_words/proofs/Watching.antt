-- The result of a watched storm.
use Rattle.std.proofs.Common.{◌≡◌, ℕ, ◌+◌, Bool, IsTrue, List, [], length, ap, subst, ◌∙◌, arith, length-append, Option, Ok}
use Rattle.ele_history.specs.Legal.{IsLegal}
use Rattle.ele_history.specs.Past.{Past, count_of, fresh, world_of}
use Rattle.ele_shared_history.specs.declared.ledger.Call.{Call}
use Rattle.ele_shared_history.specs.Closing.{Closes}
use Rattle.ele_shared_history.specs.Knowledge.{Knowledge, count_seen}
use Rattle.ele_shared_history.specs.Running.{continued, entries_of}
use Rattle.ele_shared_history.specs.Seats.{Joined}
use Rattle.ele_shared_history.proofs.Histories.{length-entries_of}
use Rattle.ele_storm_plan.specs.declared.plan.StormPlan.{StormPlan}
use Rattle.ele_storm_plan.specs.Plan.{storm_events}
use Rattle.ele_storm.specs.Storm.{AddsStorm, IsWoven}
use Rattle.ele_storm.proofs.Weaving.{calls_are_woven, length-woven, own_is_woven, weaves_out}
use Rattle.ele_model.specs.Bounds.{largest_bounds}
use Rattle.ele_model.specs.declared.entry.Entry.{Entry}
use Rattle.ele_words.specs.Progress.{ShowsProgress}
use Rattle.ele_words.specs.Watched.{Watched}

-- the history that both seats were closed to has the calls of the storm's seat
storm_stands : (opening after : Past) (last watcher both : Knowledge) → Joined last watcher both → (closes : Closes opening both after)
    → (others : List Entry) × IsWoven (entries_of last.own) others (entries_of closes.log)
storm_stands opening after last watcher both joined closes =
    let all : (others : List Entry) × IsWoven (entries_of both.own) others (entries_of closes.log) =
    subst (λ (l : List Call). (others : List Entry) × IsWoven (entries_of l) others (entries_of closes.log)) closes.own (own_is_woven both.numbers closes.log) in
    let woven = weaves_out (entries_of last.own) (entries_of watcher.own) (entries_of both.own) all.0 (entries_of closes.log) (calls_are_woven last watcher both joined) all.1 in
    (woven.0, woven.2)

-- the seat of the storm and the watcher's were joined, and the history was closed by both
pub watched : (plan : StormPlan) (before after : Option (List ℕ)) (events : ℕ) (equal : Bool) (opening history : Past) (first last watcher both : Knowledge) → opening ≡ fresh largest_bounds → watcher.object.opening ≡ opening
    → first.own ≡ [] → events ≡ storm_events plan → length last.own ≡ length first.own + events → AddsStorm plan (entries_of first.own) (entries_of last.own) → Joined last watcher both → ShowsProgress before after (count_seen watcher)
    → Closes opening both history → IsTrue equal → Watched plan before after (Ok (events, equal))
watched plan before after events equal opening history first last watcher both begun same none count more storm joined progress closes all =
    let empty : count_of watcher.object.opening ≡ 0 = ap count_of (same ∙ begun) in
    let stands = storm_stands opening history last watcher both joined closes in
    let is : history ≡ continued (fresh largest_bounds) (entries_of closes.log) = closes.after ∙ ap (λ (p : Past). continued p (entries_of closes.log)) begun in
    record {
      most = count_seen watcher;
      progress = progress;
      stormed = (
        history,
        record {
          count = count;
          entries = entries_of closes.log;
          are = is;
          legal = subst (λ (p : Past). IsLegal (world_of p) (entries_of closes.log)) begun closes.legal;
          stand = omega (arith, more, ap length none, length-entries_of last.own, length-woven (entries_of last.own) stands.0 (entries_of closes.log) stands.1);
          storm = entries_of last.own;
          runs = subst (λ (l : List Call). AddsStorm plan (entries_of l) (entries_of last.own)) none storm;
          others = stands.0;
          woven = stands.1;
          is_equal = all;
        },
      );
      behind =
          let many : length history.entries ≡ length closes.log = ap (λ (p : Past). length p.entries) is ∙ length-entries_of closes.log in
          omega (arith, many, empty, ap length closes.view.1, length-append both.view closes.view.0, ap length joined.view_second.1, length-append watcher.view joined.view_second.0);
    }
