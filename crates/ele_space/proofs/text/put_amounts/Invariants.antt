use Rattle.std.specs.Prelude.{◌++◌, codes, drop, true}
use Rattle.std.specs.List.{flat_map}
use Rattle.ele_output.specs.Prints.{outlet}
use Rattle.ele_output.proofs.Known.{HasPut}
use Rattle.ele_forecast_text.specs.declared.plan.Plan.{Plan}
use Rattle.ele_space.specs.AmountsText.{amounts_line, amounts_text, table_columns}
use Rattle.ele_space.proofs.text.put_amounts.Given as goal

-- the headings so far are put, and the others and the lines are left
abbrev pub invariant-loop-plan : goal.invariant-loop-plan
invariant-loop-plan g l =
    HasPut (outlet g.W.Write.contents l.fn.printer) (outlet g.W.Write.contents l.printer) (amounts_text l.plans l.rows) (flat_map (λ (plan : Plan). table_columns plan.word.items) (drop l.plan-index l.plans) ++ (codes "\n" ++ flat_map (amounts_line 32 true) l.rows))
