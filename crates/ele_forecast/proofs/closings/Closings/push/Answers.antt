use Rattle.std.proofs.Common.{is_ok}
use Rattle.ele_forecast.proofs.Rising.{pushed}
use Rattle.ele_forecast.proofs.closings.Closings.push.Goals as goal

pub invariant_of-self : goal.invariant_of-self
invariant_of-self c = rw c.push.ensures.items (pushed (is_ok c.push.result) c.self.inside.moments.items c.args.closed c.self.invariant (rw c.self.view_is (c.is_before_last.ensures.behind c.if-is_before_last.false)))
