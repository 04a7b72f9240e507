use Rattle.std.proofs.Common.{arith}
use Rattle.ele_svg_marks.proofs.Known.{floor_parts}
use Rattle.ele_output.proofs.Known.{puts_as}
use Rattle.ele_svg_marks.proofs.head.put_floor.Goals as goal

pub returns : goal.returns
returns g c =
    puts_as (floor_parts c.args.floor (omega arith)) (rw (c.as_bytes.ensures.value, c.format.ensures.text, c.number-versions.ensures.value) at c.put_words.ensures)
