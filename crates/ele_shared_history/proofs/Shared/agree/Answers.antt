use Rattle.std.proofs.Common.{List, subst}
use Rattle.ele_shared_history.specs.Running.{StartsWith}
use Rattle.ele_shared_history.specs.declared.ledger.Call.{Call}
use Rattle.ele_shared_history.proofs.Agrees.{agree}
use Rattle.ele_shared_history.proofs.Shared.agree.Goals as goal

pub returns-clause-views : goal.returns-clause-views
returns-clause-views g c =
    let all = c.join.new.seat.view in
    let both = c.join.ensures.0 in
    agree all c.args.seat.now.view c.args.other.now.view
    (subst (λ (seen : List Call). StartsWith all seen) c.divide-both.ensures.other.0.view both.view_first)
    (subst (λ (seen : List Call). StartsWith all seen) c.divide-second.ensures.other.0.view both.view_second)
