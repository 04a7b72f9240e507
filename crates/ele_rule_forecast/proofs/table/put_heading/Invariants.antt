use Rattle.std.specs.Prelude.{◌++◌, codes, drop}
use Rattle.std.specs.List.{flat_map}
use Rattle.ele_output.specs.Prints.{outlet}
use Rattle.ele_rule_forecast.specs.RuledTable.{rule_column, ruled_heading}
use Rattle.ele_output.proofs.Known.{HasPut}
use Rattle.ele_rule_forecast.proofs.table.put_heading.Given as goal

-- the rules so far are put, and the others and the end of the line are left
abbrev pub invariant-loop-rule : goal.invariant-loop-rule
invariant-loop-rule g l =
    HasPut (outlet g.W.Write.contents l.fn.printer) (outlet g.W.Write.contents l.printer) (ruled_heading l.details l.plans l.rules) (flat_map rule_column (drop l.rule-index l.rules) ++ codes "\n")
