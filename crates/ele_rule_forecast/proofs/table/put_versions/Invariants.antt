use Rattle.std.specs.Prelude.{drop}
use Rattle.std.specs.List.{flat_map}
use Rattle.ele_output.specs.Prints.{outlet}
use Rattle.ele_rule_forecast.specs.RuledTable.{ruled_line}
use Rattle.ele_output.proofs.Known.{HasPut}
use Rattle.ele_rule_forecast.proofs.table.put_versions.Given as goal

-- the lines so far are put, and the others are left
abbrev pub invariant-loop-version : goal.invariant-loop-version
invariant-loop-version g l =
    HasPut (outlet g.W.Write.contents l.fn.printer) (outlet g.W.Write.contents l.printer) (flat_map (ruled_line l.details l.plans l.rules) l.versions) (flat_map (ruled_line l.details l.plans l.rules) (drop l.version-index l.versions))
