use Rattle.std.specs.Prelude.{filter}
use Rattle.ele_change_paths.proofs.Basics.{arith}
use Rattle.ele_name_paths.proofs.Gathers.{gathers_new, kept_done, kept_more}
use Rattle.ele_change_paths.specs.PathChanges.{IsPathChange, is_asked}
use Rattle.ele_change_paths.proofs.difference.rows_of.Goals as goal

pub loop-change-init : goal.loop-change-init
loop-change-init c =
    gathers_new (IsPathChange c.args.was.now c.args.is.now) (filter (is_asked c.args.was.now c.args.is.now c.args.within.now) c.args.changes.now) c.new-rows.result.items c.new-rows.ensures.items

pub loop-change-preserved : goal.loop-change-preserved
loop-change-preserved c =
    kept_more (IsPathChange c.args.was.now c.args.is.now) (is_asked c.args.was.now c.args.is.now c.args.within.now) (filter (is_asked c.args.was.now c.args.is.now c.args.within.now) c.args.changes.now) c.args.changes.now c.loop-change.change-index c.change-item.result
    c.loop-change.rows.items c.in_ok-add_row.ensures.0 c.add_row.new.rows.items (omega arith) c.change-item.is c.in_ok-add_row.ensures.1 c.in_ok-add_row.ensures.2 c.loop-change.invariant

pub returns : goal.returns
returns c =
    kept_done (IsPathChange c.args.was.now c.args.is.now) (is_asked c.args.was.now c.args.is.now c.args.within.now) (filter (is_asked c.args.was.now c.args.is.now c.args.within.now) c.args.changes.now) c.args.changes.now c.loop-change.change-index c.loop-change.rows.items c.loop-change-test.false c.loop-change.invariant
