use Rattle.ele_audit.proofs.Basics.{sym}
use Rattle.ele_audit.proofs.StoryLines.{name_story_parts}
use Rattle.ele_output.proofs.Known.{puts_as, puts_then}
use Rattle.ele_audit.proofs.story_text.put_name.Goals as goal

pub returns : goal.returns
returns g c = puts_as (sym (name_story_parts c.args.name.now)) (puts_then (rw c.seconds.ensures.value at c.put_with_number.ensures) c.put_opening.ensures)
