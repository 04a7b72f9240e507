use Rattle.ele_output.proofs.Known.{puts_as, puts_then}
use Rattle.ele_outlook.proofs.Tables.{compared_for}
use Rattle.ele_outlook.proofs.telling.put_plain_table.Goals as goal

pub returns-in-Some : goal.returns-in-Some
returns-in-Some g c = rw c.in-Some.ensures (puts_then c.put_policy_line.ensures c.put_table.ensures)

pub returns-in-None : goal.returns-in-None
returns-in-None g c = puts_as (compared_for c.args.named c.args.details.now c.args.plans.now c.args.moments c.in-None.ensures) c.put_compared.ensures
