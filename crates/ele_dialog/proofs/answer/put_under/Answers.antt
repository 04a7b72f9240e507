use Rattle.std.proofs.Common.{sym, ◌∙◌}
use Rattle.ele_output.proofs.Known.{puts_as}
use Rattle.ele_dialog.proofs.Headed.{unheaded}
use Rattle.ele_dialog.proofs.answer.put_under.Goals as goal

pub returns-then-is_empty-clause-ok : goal.returns-then-is_empty-clause-ok
returns-then-is_empty-clause-ok g c =
    let plain = c.put_plain.ensures in
    (plain.0, plain.1, puts_as (sym (unheaded c.args.heading.now plain.0 (sym c.is_empty.ensures ∙ c.if-is_empty.true))) plain.2)

pub returns-clause-ok : goal.returns-clause-ok
returns-clause-ok g c = (c.in_ok-text.text.items, c.in_ok-text.ensures, rw c.as_slice.ensures.value at c.put_headed.ensures)
