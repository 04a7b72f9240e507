use Rattle.std.proofs.Common.{ap, ◌∙◌}
use Rattle.ele_history.specs.Past.{fresh}
use Rattle.ele_words.proofs.Watching.{watched}
use Rattle.ele_words.proofs.watched.watch_storm.Goals as goal

pub returns : goal.returns
returns g c =
    let begun = c.in_ok-shared.ensures in
    let split = c.in_ok-watcher.ensures in
    let run = c.run_watched-watcher.ensures in
    watched c.args.plan.now _ _ c.in_ok-events.events c.in_ok-history.equal c.in_ok-shared.shared.opening c.in_ok-history.history c.split.new.seat c.run_watched-watcher.result.1.0 c.run_watched-watcher.result.0 c.join.new.seat
    (begun.opening ∙ ap fresh c.largest.ensures) (ap (λ o. o.opening) (run.looked.object ∙ (split.ok.0.object ∙ begun.of))) (ap (λ k. k.own) split.unchanged ∙ begun.own) (rw c.in_ok-events.was at run.stormed.count)
    (rw c.in_ok-events.was at run.stormed.own) (rw c.in_ok-events.was at run.stormed.calls) c.join.ensures.0 run.progress c.in_ok-history.ensures.closes c.in_ok-history.ensures.equal
