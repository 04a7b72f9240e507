use Rattle.std.proofs.Common.{◌++◌, arith}
use Rattle.std.specs.Prelude.{codes, true}
use Rattle.std.specs.List.{flat_map}
use Rattle.ele_output.proofs.Known.{put_last, puts_then}
use Rattle.ele_forecast_text.proofs.Lines.{list_more_then, list_past, put_start}
use Rattle.ele_forecast_text.specs.declared.plan.Plan.{Plan}
use Rattle.ele_space.specs.AmountsText.{amounts_line, table_columns}
use Rattle.ele_space.proofs.text.put_amounts.Goals as goal

pub loop-plan-init : goal.loop-plan-init
loop-plan-init g c = put_start c.put.ensures

pub loop-plan-preserved : goal.loop-plan-preserved
loop-plan-preserved g c =
    list_more_then (λ (plan : Plan). table_columns plan.word.items) c.args.plans.now c.loop-plan.plan-index c.plan-item.result (codes "\n" ++ flat_map (amounts_line 32 true) c.args.rows.now) (omega arith) c.plan-item.is c.loop-plan.invariant (rw c.as_slice.ensures.value at c.put_table_columns.ensures)

pub returns : goal.returns
returns g c =
    put_last (list_past (λ (plan : Plan). table_columns plan.word.items) c.args.plans.now c.loop-plan.plan-index (codes "\n" ++ flat_map (amounts_line 32 true) c.args.rows.now) c.loop-plan-test.false c.loop-plan.invariant) (puts_then c.put-2.ensures c.put_rows.ensures)
