use Rattle.ele_runs.proofs.Basics.{Err, ap, sym, ◌∙◌}
use Rattle.ele_runs.proofs.Blocks.{hears_event, hears_fault, hears_history, hears_memory, hears_no_history, hears_question, hears_trim}
use Rattle.ele_runs.proofs.said.hear.Goals as goal

pub returns-in-Ok-Event : goal.returns-in-Ok-Event
returns-in-Ok-Event g c = hears_event _ _ _ c.in-Ok-Event.event _ (rw (← c.in-Ok-Event.field-0-is) c.in-Ok-Event.ensures.found) c.hear_event.ensures

pub returns-in-Ok-Trim : goal.returns-in-Ok-Trim
returns-in-Ok-Trim g c = hears_trim (g.K.Keep.kept c.args.keeper.now) (g.K.Keep.kept c.hear_trim.new.self) c.args.line.now c.hear_trim.result (rw (← c.in-Ok-Trim.field-0-is) c.in-Ok-Trim.ensures.found) c.hear_trim.ensures

pub returns-in_default : goal.returns-in_default
returns-in_default g c = hears_fault _ _ _ c.in-Err.ensures.fault c.in_default.not-NoMemory

pub returns-in-Ok-Question : goal.returns-in-Ok-Question
returns-in-Ok-Question g c = hears_question (g.K.Keep.kept c.args.keeper.now) c.args.line.now c.in-Ok-Question.question c.explain.result (rw (← c.in-Ok-Question.field-0-is) c.in-Ok-Question.ensures.found) c.explain.ensures

pub returns-then-has_history : goal.returns-then-has_history
returns-then-has_history g c =
    hears_history (g.K.Keep.kept c.args.keeper.now) c.args.line.now (rw (← c.in-Ok-History.field-0-is) c.in-Ok-History.ensures.found) (sym c.has_history.ensures ∙ c.if-has_history.true)

pub returns-else-has_history : goal.returns-else-has_history
returns-else-has_history g c =
    hears_no_history (g.K.Keep.kept c.args.keeper.now) c.args.line.now (rw (← c.in-Ok-History.field-0-is) c.in-Ok-History.ensures.found) (sym c.has_history.ensures ∙ c.if-has_history.false)

pub returns-in-NoMemory : goal.returns-in-NoMemory
returns-in-NoMemory g c = hears_memory (g.K.Keep.kept c.args.keeper.now) c.args.line.now (c.read_line_in.ensures.memory (c.in-Err.is ∙ ap Err c.in-NoMemory.is))
