use Rattle.std.proofs.Common.{arith}
use Rattle.ele_shared_history.proofs.Keeps.{tries}
use Rattle.ele_shared_history.proofs.steps.take.Goals as goal

pub compare_exchange-requires : goal.compare_exchange-requires
compare_exchange-requires g c =
    let mine = c.requires.mine in
    let p = c.args.place.now in
    (mine.0, omega arith, rw mine.2 (tries c.args.ledger.now.key.value p.id p.me c.args.word c.requires.even mine.3))
