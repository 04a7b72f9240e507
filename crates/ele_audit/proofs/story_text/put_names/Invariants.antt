use Rattle.ele_audit.proofs.Basics.{drop, flat_map}
use Rattle.ele_audit.specs.StoryText.{name_story_line}
use Rattle.ele_output.proofs.Known.{HasPut}
use Rattle.ele_output.specs.Prints.{outlet}
use Rattle.ele_audit.proofs.story_text.put_names.Given as goal

-- the lines so far are put, and the others are left
abbrev pub invariant-loop-name : goal.invariant-loop-name
invariant-loop-name g l =
    HasPut (outlet g.W.Write.contents l.fn.printer) (outlet g.W.Write.contents l.printer) (flat_map name_story_line l.names) (flat_map name_story_line (drop l.name-index l.names))
