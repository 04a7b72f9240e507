use Rattle.std.proofs.Common.{arith}
use Rattle.ele_shared_history.proofs.Keeps.{looks}
use Rattle.ele_shared_history.proofs.steps.look.Goals as goal

pub load-requires : goal.load-requires
load-requires g c =
    let mine = c.requires in
    let p = c.args.place.now in
    (mine.0, omega arith, rw mine.2 (looks c.args.ledger.now.key.value p.id p.me mine.3))
