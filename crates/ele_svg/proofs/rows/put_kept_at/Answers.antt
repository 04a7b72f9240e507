use Rattle.std.proofs.Common.{arith}
use Rattle.std.specs.Prelude.{ℕ}
use Rattle.std.specs.List.{flat_map}
use Rattle.ele_svg.specs.Rows.{kept_marks}
use Rattle.ele_svg_marks.specs.Mark.{mark_text}
use Rattle.ele_output.proofs.Lists.{list_done, list_more}
use Rattle.ele_svg.proofs.rows.put_kept_at.Goals as goal

pub loop-number-preserved : goal.loop-number-preserved
loop-number-preserved g c = list_more (λ (number : ℕ). flat_map mark_text (kept_marks c.args.page.now c.args.at number)) c.args.numbers.now c.loop-number.number-index c.number-item.result (omega arith) c.number-item.is c.loop-number.invariant (rw (c.square-mark.ensures, c.x.ensures.value, c.y.ensures.value) at c.put_marks.ensures)

pub returns : goal.returns
returns g c = list_done (λ (number : ℕ). flat_map mark_text (kept_marks c.args.page.now c.args.at number)) c.args.numbers.now c.loop-number.number-index c.loop-number-test.false c.loop-number.invariant
