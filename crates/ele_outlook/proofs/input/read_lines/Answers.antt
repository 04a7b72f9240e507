use Rattle.std.proofs.Common.{◌+◌, drop}
use Rattle.std.proofs.lemmas.Result.{err_from_is_err_and}
use Rattle.ele_outlook.specs.Input.{lines_of}
use Rattle.ele_outlook.proofs.Lines.{first_line, read_bad, read_more, read_none}
use Rattle.ele_outlook.proofs.input.read_lines.Goals as goal

pub lines-init : goal.lines-init
lines-init c = read_none c.no_lines-read.ensures.rows c.no_lines-read.ensures.closings c.no_lines-read.ensures.details

pub lines-preserved : goal.lines-preserved
lines-preserved c =
    rw c.cut_line.ensures.behind (read_more _ _ c.lines.invariant (first_line _ _ c.in-Some.ensures) (rw c.cut_line.ensures.line at c.in_ok-add_line.ensures))

pub returns-in_err-add_line : goal.returns-in_err-add_line
returns-in_err-add_line c =
    let p = err_from_is_err_and c.from_residual.result c.from_residual.ensures.1 in
    let behind = lines_of (drop (c.in-Some.at + 1) c.lines.rest.now) in
    rw (p.1, p.2) (read_bad c.cut_line.result.0.now behind _ c.lines.invariant (rw c.cut_line.ensures.line (first_line _ _ c.in-Some.ensures)) c.in_err-add_line.ensures)
