use Rattle.std.proofs.Common.{◌+◌, drop}
use Rattle.ele_outlook.proofs.Lines.{first_line}
use Rattle.ele_outlook.proofs.OtherLines.{more_lines}
use Rattle.ele_outlook.proofs.against.labels_in.Goals as goal

pub lines-preserved : goal.lines-preserved
lines-preserved c =
    rw c.cut_line.ensures.behind
    (more_lines _ _ _ c.lines.rest.now _ (drop (c.in-Some.at + 1) c.lines.rest.now) c.lines.invariant (first_line _ _ c.in-Some.ensures) (rw c.cut_line.ensures.line at c.in_ok-add_label.ensures))
