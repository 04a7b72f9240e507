use Rattle.ele_output.proofs.Known.{puts_as}
use Rattle.std.proofs.Common.{sym}
use Rattle.ele_dialog.proofs.Headed.{headed_at, headed_never}
use Rattle.ele_dialog.proofs.heading.put_headed.Goals as goal

pub returns-in-Some : goal.returns-in-Some
returns-in-Some g c =
    puts_as (sym (headed_at c.args.heading.now c.args.text.now c.in-Some.at c.in-Some.ensures)) (rw (c.split_at.ensures.front, c.split_at-in-Some.ensures.back) at c.put_parts.ensures)

pub returns-in-None : goal.returns-in-None
returns-in-None g c = puts_as (sym (headed_never c.args.heading.now c.args.text.now c.in-None.ensures)) c.put.ensures
