use Rattle.std.proofs.Common.{ℕ, ◌∷◌, arith}
use Rattle.std.specs.Prelude.{codes, decimal}
use Rattle.ele_output.proofs.Known.{put_last}
use Rattle.ele_forecast_text.proofs.Lines.{byte_more_then, list_past, put_start}
use Rattle.ele_against.proofs.table.put_lines.Goals as goal

pub loop-line-init : goal.loop-line-init
loop-line-init g c = put_start c.put.ensures

pub loop-line-preserved : goal.loop-line-preserved
loop-line-preserved g c =
    byte_more_then (λ (number : ℕ). 32 ∷ decimal number) c.args.lines.now c.loop-line.line-index _ (codes "\n") (omega arith) c.loop-line.invariant c.put_with_number.ensures

pub returns : goal.returns
returns g c =
    put_last (list_past (λ (number : ℕ). 32 ∷ decimal number) c.args.lines.now c.loop-line.line-index (codes "\n") c.loop-line-test.false c.loop-line.invariant) c.put-2.ensures
