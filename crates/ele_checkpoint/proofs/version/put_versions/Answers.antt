use Rattle.std.proofs.Common.{◌++◌, arith}
use Rattle.std.specs.Option.{option_copied}
use Rattle.ele_checkpoint.specs.Contents.{versions_text}
use Rattle.ele_checkpoint.proofs.Loops.{version_more, version_done}
use Rattle.ele_checkpoint.proofs.version.put_versions.Goals as goal

pub loop-row-preserved : goal.loop-row-preserved
loop-row-preserved c = version_more (option_copied c.loop-row.before) c.args.rows.now c.loop-row.row-index c.row-item.result c.loop-row.out.items c.put_version.new.out.items (c.args.out.now.items ++ versions_text c.args.rows.now) (omega arith) c.row-item.is c.in_ok-put_version.ensures c.loop-row.invariant

pub returns : goal.returns
returns c = version_done (option_copied c.loop-row.before) c.args.rows.now c.loop-row.row-index c.loop-row.out.items (c.args.out.now.items ++ versions_text c.args.rows.now) c.loop-row-test.false c.loop-row.invariant
