use Rattle.std.specs.Prelude.{drop}
use Rattle.std.specs.List.{flat_map}
use Rattle.ele_output.specs.Prints.{outlet}
use Rattle.ele_rule_forecast.specs.RuledTable.{ruled_text, verdict_lines}
use Rattle.ele_output.proofs.Known.{HasPut}
use Rattle.ele_rule_forecast.proofs.table.put_ruled.Given as goal

-- the lines of the rules so far are put, and the others are left
abbrev pub invariant-loop-rule : goal.invariant-loop-rule
invariant-loop-rule g l =
    HasPut (outlet g.W.Write.contents l.fn.printer) (outlet g.W.Write.contents l.printer) (ruled_text l.details l.plans l.moments l.rules) (flat_map (verdict_lines l.details) (drop l.rule-index l.rules))
