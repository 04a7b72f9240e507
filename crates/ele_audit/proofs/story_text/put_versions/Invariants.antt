use Rattle.ele_audit.proofs.Basics.{drop, flat_map}
use Rattle.ele_audit.specs.StoryText.{version_story_line}
use Rattle.ele_output.proofs.Known.{HasPut}
use Rattle.ele_output.specs.Prints.{outlet}
use Rattle.ele_audit.proofs.story_text.put_versions.Given as goal

-- the lines so far are put, and the others are left
abbrev pub invariant-loop-row : goal.invariant-loop-row
invariant-loop-row g l =
    HasPut (outlet g.W.Write.contents l.fn.printer) (outlet g.W.Write.contents l.printer) (flat_map version_story_line l.rows) (flat_map version_story_line (drop l.row-index l.rows))
