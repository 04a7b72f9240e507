use Rattle.std.proofs.Common.{◌≡◌, ap, ◌∙◌, arith, false}
use Rattle.atomic_table.specs.Table.{Me}
use Rattle.ele_shared_history.specs.declared.ledger.View.{View}
use Rattle.ele_shared_history.specs.Rule.{Kind}
use Rattle.ele_shared_history.proofs.Splits.{unites, meets}
use Rattle.ele_shared_history.proofs.steps.unite.Goals as goal

pub join_seat-requires : goal.join_seat-requires
join_seat-requires g c =
    let mine = c.requires.mine in
    let idle = c.requires.idle in
    let p = c.args.place.now in
    let q = c.args.other in
    (mine.0.0, mine.1.0, idle.1.empty, omega arith, unites c.args.ledger.now.key.value p.id q.id p.me.0 q.me.0 mine.0.3 mine.1.3 idle.0.holds idle.1.holds)

pub load-requires : goal.load-requires
load-requires g c =
    let mine = c.requires.mine in
    let made = c.join_seat.ensures in
    let n = c.join_seat.new.seat in
    let live : n.me.0.spent ≡ false = ap (λ (x : Me Kind View). x.0.spent) made.2 in
    (made.0 ∙ mine.0.0, omega arith, rw mine.0.2 (meets c.args.ledger.now.key.value n.id n.me live))
