use Rattle.ele_audit.proofs.Basics.{arith}
use Rattle.ele_audit.specs.StoryText.{name_story_line}
use Rattle.ele_output.proofs.Lists.{list_done, list_more}
use Rattle.ele_audit.proofs.story_text.put_names.Goals as goal

pub loop-name-preserved : goal.loop-name-preserved
loop-name-preserved g c = list_more name_story_line c.args.names.now c.loop-name.name-index c.name-item.result (omega arith) c.name-item.is c.loop-name.invariant c.put_name.ensures

pub returns : goal.returns
returns g c = list_done name_story_line c.args.names.now c.loop-name.name-index c.loop-name-test.false c.loop-name.invariant
