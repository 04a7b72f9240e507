use Rattle.std.proofs.Common.{◌∙◌, ◌+◌, drop, sym}
use Rattle.ele_outlook.specs.Unplaced.{line_lacks_offset}
use Rattle.ele_outlook.proofs.Lines.{first_line}
use Rattle.ele_outlook.proofs.Passed.{here, passed}
use Rattle.ele_outlook.proofs.unplaced.some_lacks_offset.Goals as goal

pub lines-preserved : goal.lines-preserved
lines-preserved c =
    rw c.cut_line.ensures.behind (passed (line_lacks_offset c.args.form) _ c.lines.rest.now _ (drop (c.in-Some.at + 1) c.lines.rest.now) c.lines.invariant (first_line _ _ c.in-Some.ensures)
    (rw c.cut_line.ensures.line at (sym c.line_lacks_offset.ensures ∙ c.if-line_lacks_offset.false)))

pub returns-then-line_lacks_offset : goal.returns-then-line_lacks_offset
returns-then-line_lacks_offset c =
    here (line_lacks_offset c.args.form) _ c.lines.rest.now _ (drop (c.in-Some.at + 1) c.lines.rest.now) c.lines.invariant (first_line _ _ c.in-Some.ensures)
    (rw c.cut_line.ensures.line at (sym c.line_lacks_offset.ensures ∙ c.if-line_lacks_offset.true))

pub returns : goal.returns
returns c = c.last_lacks_offset.ensures ∙ sym c.lines.invariant
