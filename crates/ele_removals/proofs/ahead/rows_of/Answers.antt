use Rattle.ele_removals.proofs.Basics.{arith}
use Rattle.ele_audit.proofs.Gathers.{each_done, each_more, gathers_new}
use Rattle.ele_removals.specs.Expiring.{IsExpiry}
use Rattle.ele_removals.proofs.ahead.rows_of.Goals as goal

pub loop-key-init : goal.loop-key-init
loop-key-init c = gathers_new (IsExpiry c.args.names.now) c.args.keys.now c.new-rows.result.items c.new-rows.ensures.items

pub loop-key-preserved : goal.loop-key-preserved
loop-key-preserved c =
    each_more (IsExpiry c.args.names.now) c.args.keys.now c.loop-key.key-index c.key-item.result c.loop-key.rows.items c.push.new.self.items c.in_ok-row.row (omega arith) c.key-item.is c.in_ok-row.ensures c.in_ok-push.ensures.items c.loop-key.invariant

pub returns : goal.returns
returns c = each_done (IsExpiry c.args.names.now) c.args.keys.now c.loop-key.key-index c.loop-key.rows.items c.loop-key-test.false c.loop-key.invariant
