use Rattle.std.specs.Prelude.{drop}
use Rattle.std.specs.List.{flat_map}
use Rattle.ele_output.specs.Prints.{outlet}
use Rattle.ele_rule_forecast.specs.RuledTable.{verdict_line}
use Rattle.ele_output.proofs.Known.{HasPut}
use Rattle.ele_rule_forecast.proofs.table.put_verdicts.Given as goal

-- the lines so far are put, and the others are left
abbrev pub invariant-loop-verdict : goal.invariant-loop-verdict
invariant-loop-verdict g l =
    HasPut (outlet g.W.Write.contents l.fn.printer) (outlet g.W.Write.contents l.printer) (flat_map (verdict_line l.details l.word) l.verdicts) (flat_map (verdict_line l.details l.word) (drop l.verdict-index l.verdicts))
