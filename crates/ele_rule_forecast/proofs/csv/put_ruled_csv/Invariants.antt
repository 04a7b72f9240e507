use Rattle.std.specs.Prelude.{drop}
use Rattle.std.specs.List.{flat_map}
use Rattle.ele_output.specs.Prints.{outlet}
use Rattle.ele_rule_forecast.specs.RuledCsv.{ruled_csv, ruled_row}
use Rattle.ele_output.proofs.Known.{HasPut}
use Rattle.ele_rule_forecast.proofs.csv.put_ruled_csv.Given as goal

-- the heading and the rows so far are put, and the others are left
abbrev pub invariant-loop-version : goal.invariant-loop-version
invariant-loop-version g l =
    HasPut (outlet g.W.Write.contents l.fn.printer) (outlet g.W.Write.contents l.printer) (ruled_csv l.details l.plans l.rules) (flat_map (ruled_row l.details l.plans l.rules) (drop l.version-index l.versions))
