use Rattle.ele_svg_marks.proofs.Known.{titled_none}
use Rattle.ele_svg_marks.proofs.head.put_titled.Goals as goal

pub returns-in-empty : goal.returns-in-empty
returns-in-empty g c = rw (titled_none c.args.title.now c.in-empty.len_below) c.put.ensures
