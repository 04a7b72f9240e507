use Rattle.std.specs.Prelude.{filter}
use Rattle.ele_audit.proofs.Basics.{arith}
use Rattle.ele_audit.proofs.Gathers.{gathers_new, kept_done, kept_more}
use Rattle.ele_name_paths.specs.LivePath.{is_name_to}
use Rattle.ele_audit.specs.Story.{IsNameStory}
use Rattle.ele_model.specs.declared.rows.Target.TheVariants.{File}
use Rattle.ele_audit.proofs.seen.names_of.Goals as goal

pub loop-row-init : goal.loop-row-init
loop-row-init c = gathers_new (IsNameStory c.args.rows.now) (filter (is_name_to (File c.args.file)) c.args.rows.now) c.new-names.result.items c.new-names.ensures.items

pub loop-row-preserved : goal.loop-row-preserved
loop-row-preserved c =
    kept_more (IsNameStory c.args.rows.now) (is_name_to (File c.args.file)) (filter (is_name_to (File c.args.file)) c.args.rows.now) c.args.rows.now c.loop-row.row-index c.row-item.result
    c.loop-row.names.items c.in_ok-add_name.ensures.0 c.add_name.new.names.items (omega arith) c.row-item.is c.in_ok-add_name.ensures.1 c.in_ok-add_name.ensures.2 c.loop-row.invariant

pub returns : goal.returns
returns c = kept_done (IsNameStory c.args.rows.now) (is_name_to (File c.args.file)) (filter (is_name_to (File c.args.file)) c.args.rows.now) c.args.rows.now c.loop-row.row-index c.loop-row.names.items c.loop-row-test.false c.loop-row.invariant
