use Rattle.ele_audit.proofs.Basics.{◌≡◌, ◌+◌, length, drop}
use Rattle.ele_content.specs.Content.{content_of}
use Rattle.ele_audit.proofs.story_info.length_of.Given as goal

abbrev pub invariant-loop-cell : goal.invariant-loop-cell
invariant-loop-cell l = l.bytes + length (content_of (drop l.cell-index l.cells)) ≡ length (content_of l.cells)
