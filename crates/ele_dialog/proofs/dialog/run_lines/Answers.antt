use Rattle.std.proofs.Common.{refl}
use Rattle.ele_dialog.proofs.Typed.{ends_badly, typed_more, typed_none}
use Rattle.ele_dialog.proofs.dialog.run_lines.Goals as goal

pub lines-init : goal.lines-init
lines-init g c = (typed_none _ _ _, c.requires)

pub lines-preserved : goal.lines-preserved
lines-preserved g c =
    let next = rw c.if-not-goes_on.false at c.in-Ok.ensures in
    (typed_more _ refl c.lines.invariant.0 next.0, next.1)

pub returns-in-Err : goal.returns-in-Err
returns-in-Err g c =
    ends_badly _ _ _ _ c.in-Err.fault refl c.requires c.lines.invariant.0 c.lines.invariant.1 c.in-Err.ensures
