use Rattle.std.proofs.Common.{◌∙◌, sym, length}
use Rattle.ele_output.proofs.Known.{puts_as}
use Rattle.ele_outlook.proofs.Tables.{plain_for, ruled_for}
use Rattle.ele_outlook.proofs.telling.put_told_table.Goals as goal

pub returns-then-is_empty : goal.returns-then-is_empty
returns-then-is_empty g c =
    puts_as (plain_for c.args.options.now.named c.args.details.now c.args.plans.now (length c.args.options.now.moments.items) c.args.judged.now (sym c.is_empty.ensures ∙ c.if-is_empty.true))
    (rw c.as_slice-moments.ensures.value at c.put_plain_table.ensures)

pub returns-else-is_empty : goal.returns-else-is_empty
returns-else-is_empty g c =
    puts_as (ruled_for c.args.options.now.named c.args.details.now c.args.plans.now (length c.args.options.now.moments.items) c.args.judged.now (sym c.is_empty.ensures ∙ c.if-is_empty.false))
    (rw c.as_slice-moments.ensures.value at c.put_ruled.ensures)
