use Rattle.std.proofs.Common.{◌∙◌}
use Rattle.ele_shared_history.proofs.Rests.{idle_looked, seizes_again}
use Rattle.ele_shared_history.proofs.steps.wait.Goals as goal

pub seize-taken-requires-in-loop-clause-mine : goal.seize-taken-requires-in-loop-clause-mine
seize-taken-requires-in-loop-clause-mine g c =
    let mine = c.requires.mine in
    let idle = idle_looked c.args.place.now.me c.loop.place.me c.requires.idle (rw c.if-taken.false at c.loop.invariant.3) in
    (c.loop.invariant.2.0 ∙ mine.0, mine.1, mine.2, idle.live)

pub seize-taken-requires-in-loop-clause-idle : goal.seize-taken-requires-in-loop-clause-idle
seize-taken-requires-in-loop-clause-idle g c =
    idle_looked c.args.place.now.me c.loop.place.me c.requires.idle (rw c.if-taken.false at c.loop.invariant.3)

pub loop-preserved : goal.loop-preserved
loop-preserved g c =
    let before = c.loop.invariant.2 in
    let after = c.seize-taken-in-loop.ensures.place in (
      tt,
      tt,
      (after.0 ∙ before.0, after.1 ∙ before.1),
      seizes_again c.seize-taken-in-loop.result c.args.place.now.me c.loop.place.me c.seize-taken-in-loop.new.place.me (rw c.if-taken.false at c.loop.invariant.3) c.seize-taken-in-loop.ensures.taken,
    )
