use Rattle.std.proofs.Common.{◌++◌}
use Rattle.ele_checkpoint.specs.Cells.{content_text}
use Rattle.ele_checkpoint.proofs.Loops.{Goes}
use Rattle.ele_checkpoint.proofs.content.put_content.Given as goal

-- the cells so far are written, but for those that are kept last
abbrev pub invariant-loop-slot : goal.invariant-loop-slot
invariant-loop-slot l = Goes l.base l.cells l.slot l.kept l.out.items (l.fn.out.items ++ content_text l.base l.cells)
