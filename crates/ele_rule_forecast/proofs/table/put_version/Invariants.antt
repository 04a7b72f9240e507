use Rattle.std.specs.Prelude.{◌++◌, codes, drop}
use Rattle.std.specs.List.{flat_map}
use Rattle.ele_output.specs.Prints.{outlet}
use Rattle.ele_rule_forecast.specs.RuledTable.{kept_column, ruled_line}
use Rattle.ele_output.proofs.Known.{HasPut}
use Rattle.ele_rule_forecast.proofs.table.put_version.Given as goal

-- what the rules so far say is put, and the others and the end of the line are left
abbrev pub invariant-loop-rule : goal.invariant-loop-rule
invariant-loop-rule g l =
    HasPut (outlet g.W.Write.contents l.fn.printer) (outlet g.W.Write.contents l.printer) (ruled_line l.details l.plans l.rules l.version) (flat_map (kept_column l.version.number) (drop l.rule-index l.rules) ++ codes "\n")
