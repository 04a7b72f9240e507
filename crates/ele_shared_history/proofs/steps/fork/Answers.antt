use Rattle.std.proofs.Common.{◌≡◌, ap, ◌∙◌, arith, true, false}
use Rattle.ele_shared_history.specs.declared.ledger.View.{View}
use Rattle.atomic_table.specs.Table.{Me}
use Rattle.ele_shared_history.specs.Rule.{Kind}
use Rattle.ele_shared_history.proofs.Splits.{forks, registers}
use Rattle.ele_shared_history.proofs.steps.fork.Goals as goal

pub split_seat-next-requires : goal.split_seat-next-requires
split_seat-next-requires g c =
    let mine = c.requires.mine in
    let p = c.args.place.now in
    (mine.0, omega arith, forks c.args.ledger.now.key.value p.id p.me.0 mine.3)

pub load-requires : goal.load-requires
load-requires g c =
    let mine = c.requires.mine in
    let made = c.split_seat-next.ensures in
    let n = c.split_seat-next.result in
    let new : n.me.0.fresh ≡ true = ap (λ (x : Me Kind View). x.0.fresh) made.4 in
    let live : n.me.0.spent ≡ false = ap (λ (x : Me Kind View). x.0.spent) made.4 in
    let idle : n.me.0.holds ≡ false = ap (λ (x : Me Kind View). x.0.holds) made.4 in
    (made.3 ∙ mine.0, omega arith, rw mine.2 (registers c.args.ledger.now.key.value n.id n.me new live idle))
