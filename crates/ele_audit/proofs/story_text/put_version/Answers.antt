use Rattle.ele_audit.proofs.Basics.{sym}
use Rattle.ele_audit.proofs.StoryLines.{version_story_parts}
use Rattle.ele_output.proofs.Known.{puts_as, puts_then}
use Rattle.ele_audit.proofs.story_text.put_version.Goals as goal

pub returns : goal.returns
returns g c = puts_as (sym (version_story_parts c.args.row.now)) (puts_then (rw c.version_number.ensures at c.put_with_number.ensures) (puts_then c.put_info.ensures (puts_then c.put_removed_at.ensures (puts_then c.put_hold.ensures c.put_fate_or_dash.ensures))))
