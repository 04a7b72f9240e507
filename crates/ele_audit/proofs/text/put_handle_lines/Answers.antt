use Rattle.ele_audit.proofs.Basics.{arith}
use Rattle.ele_audit.specs.AuditText.{handle_line}
use Rattle.ele_output.proofs.Lists.{list_done, list_more}
use Rattle.ele_audit.proofs.text.put_handle_lines.Goals as goal

pub loop-handle-preserved : goal.loop-handle-preserved
loop-handle-preserved g c = list_more handle_line c.args.handles.now c.loop-handle.handle-index c.handle-item.result (omega arith) c.handle-item.is c.loop-handle.invariant c.put_handle.ensures

pub returns : goal.returns
returns g c = list_done handle_line c.args.handles.now c.loop-handle.handle-index c.loop-handle-test.false c.loop-handle.invariant
