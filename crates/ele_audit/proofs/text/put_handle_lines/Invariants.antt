use Rattle.ele_audit.proofs.Basics.{drop, flat_map}
use Rattle.ele_audit.specs.AuditText.{handle_line}
use Rattle.ele_output.proofs.Known.{HasPut}
use Rattle.ele_output.specs.Prints.{outlet}
use Rattle.ele_audit.proofs.text.put_handle_lines.Given as goal

-- the lines so far are put, and the others are left
abbrev pub invariant-loop-handle : goal.invariant-loop-handle
invariant-loop-handle g l =
    HasPut (outlet g.W.Write.contents l.fn.printer) (outlet g.W.Write.contents l.printer) (flat_map handle_line l.handles) (flat_map handle_line (drop l.handle-index l.handles))
