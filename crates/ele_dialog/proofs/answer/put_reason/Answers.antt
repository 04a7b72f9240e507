use Rattle.std.proofs.Common.{[], sym, ◌∙◌}
use Rattle.ele_dialog.proofs.Reasons.{bad_reason, bad_why, no_reason}
use Rattle.ele_dialog.specs.Answer.{dialog_options}
use Rattle.ele_output.proofs.Known.{puts_nil}
use Rattle.ele_runs.specs.LineLength.{line_unless_long}
use Rattle.ele_dialog.proofs.answer.put_reason.Goals as goal

pub returns-then-not-is_bad : goal.returns-then-not-is_bad
returns-then-not-is_bad g c = ([], no_reason _ _ _ (sym c.is_bad.ensures ∙ c.if-not-is_bad.true), puts_nil _)

pub returns : goal.returns
returns g c =
    let some = rw (c.dialog_options.ensures, c.kept_line.ensures) at c.why_bad-why.ensures.some in
    let none = rw (c.dialog_options.ensures, c.kept_line.ensures) at c.why_bad-why.ensures.none in
    let why = bad_why dialog_options (line_unless_long c.args.line.now) c.why_bad-why.result some none in
    (_, bad_reason _ _ _ c.why_bad-why.result (sym c.is_bad.ensures ∙ c.if-not-is_bad.false) why, c.put_why.ensures)
