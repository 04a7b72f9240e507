use Rattle.ele_name_paths.proofs.Basics.{arith}
use Rattle.ele_name_paths.proofs.Lasts.{last_begin, last_done, last_more}
use Rattle.ele_name_paths.specs.LivePath.{is_name_to}
use Rattle.ele_name_paths.proofs.path.last_name.Goals as goal

pub loop-row-init : goal.loop-row-init
loop-row-init c = last_begin (is_name_to c.args.at.now) c.args.rows.now

pub loop-row-preserved : goal.loop-row-preserved
loop-row-preserved c = last_more (is_name_to c.args.at.now) c.args.rows.now c.loop-row.row-index c.row-item.result c.loop-row.last c.later_name-last.result (omega arith) c.row-item.is c.later_name-last.ensures c.loop-row.invariant

pub returns : goal.returns
returns c = last_done (is_name_to c.args.at.now) c.args.rows.now c.loop-row.row-index c.loop-row.last c.loop-row-test.false c.loop-row.invariant
