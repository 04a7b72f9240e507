use Rattle.ele_recording.proofs.Heard.{heard_more, unanswered}
use Rattle.ele_recording.proofs.recording.answer_lines.Goals as goal

pub returns-in-Err-clause-unheard : goal.returns-in-Err-clause-unheard
returns-in-Err-clause-unheard g c =
    let unheard = rw c.split_at.ensures.front at c.in-Err.ensures in
    unanswered c.args.history.now c.args.script.now c.lines.rest.now c.in-Some.at c.line_of.result c.in-Err.said c.lines.history c.answer.new.history c.lines.invariant c.in-Some.ensures unheard.0 unheard.1 c.line_of.ensures

pub lines-preserved : goal.lines-preserved
lines-preserved g c =
    let heard = rw c.split_at.ensures.front at c.in_default-answer.ensures in
    rw c.split_at-in-Some.ensures.back (heard_more c.args.history.now c.args.script.now c.lines.rest.now c.in-Some.at heard.0 c.lines.history c.answer.new.history c.lines.invariant c.in-Some.ensures heard.1 heard.2)
