use Rattle.std.proofs.Common.{arith, ◌≤◌}
use Rattle.std.proofs.lemmas.Bool.Decides.{nat_tests}
use Rattle.ele_lists.specs.Lists.{AllLater}
use Rattle.ele_forecast.proofs.Rising.{below_last}
use Rattle.ele_forecast.proofs.closings.Closings.is_before_last.Goals as goal

pub returns-in-Some-clause-behind : goal.returns-in-Some-clause-behind
returns-in-Some-clause-behind c same =
    let rising : AllLater ◌≤◌ c.args.self.now = rw (← c.self.view_is) c.self.invariant in
    grind (arith, nat_tests, below_last c.args.self.now c.in-Some.last.now c.args.moment rising)
