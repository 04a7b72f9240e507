use Rattle.std.proofs.Common.{arith}
use Rattle.ele_history.proofs.Growth.{begun_in}
use Rattle.ele_history.proofs.History.from_flat.Goals as goal

pub invariant_of-result : goal.invariant_of-result
invariant_of-result g c =
    rw (c.max-folded.ensures, c.in-Ok.ensures, c.new.ensures.items)
    (begun_in c.args.flat c.args.folded c.requires (omega (arith, c.if-folded-events.false, c.events.ensures.value, c.max-folded.ensures)))
