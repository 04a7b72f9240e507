use Rattle.ele_audit.proofs.Basics.{arith}
use Rattle.ele_audit.specs.StoryText.{version_story_line}
use Rattle.ele_output.proofs.Lists.{list_done, list_more}
use Rattle.ele_audit.proofs.story_text.put_versions.Goals as goal

pub loop-row-preserved : goal.loop-row-preserved
loop-row-preserved g c = list_more version_story_line c.args.rows.now c.loop-row.row-index c.row-item.result (omega arith) c.row-item.is c.loop-row.invariant c.put_version.ensures

pub returns : goal.returns
returns g c = list_done version_story_line c.args.rows.now c.loop-row.row-index c.loop-row-test.false c.loop-row.invariant
