use Rattle.ele_audit.proofs.Basics.{arith}
use Rattle.ele_name_paths.proofs.Lasts.{last_begin, last_done, last_more}
use Rattle.ele_model.specs.NameRows.{is_named}
use Rattle.ele_audit.proofs.story_file.newest.Goals as goal

pub loop-row-init : goal.loop-row-init
loop-row-init c = last_begin (is_named c.args.directory c.args.name.now) c.args.rows.now

pub loop-row-preserved : goal.loop-row-preserved
loop-row-preserved c = last_more (is_named c.args.directory c.args.name.now) c.args.rows.now c.loop-row.row-index c.row-item.result c.loop-row.last c.later-last.result (omega arith) c.row-item.is c.later-last.ensures c.loop-row.invariant

pub returns : goal.returns
returns c = last_done (is_named c.args.directory c.args.name.now) c.args.rows.now c.loop-row.row-index c.loop-row.last c.loop-row-test.false c.loop-row.invariant
