use Rattle.std.proofs.Common.{sym, ◌∙◌}
use Rattle.ele_recording.proofs.Heard.{at_end, cut_off}
use Rattle.ele_recording.proofs.recording.record.Goals as goal

pub returns-then-not-is_empty : goal.returns-then-not-is_empty
returns-then-not-is_empty g c =
    cut_off c.args.start c.args.script.now c.in-Ok.rest.now c.line_of.result c.answer_lines.new.history c.in-Ok.ensures.heard (sym c.is_empty.ensures ∙ c.if-not-is_empty.true) c.line_of.ensures

pub returns-then-folded-ne0 : goal.returns-then-folded-ne0
returns-then-folded-ne0 g c =
    (c.answer_lines.new.history, at_end c.args.start c.args.script.now c.in-Ok.rest.now c.answer_lines.new.history c.in-Ok.ensures.heard (sym c.is_empty.ensures ∙ c.if-not-is_empty.false), rw c.folded.ensures at c.if-folded-ne0.true)
