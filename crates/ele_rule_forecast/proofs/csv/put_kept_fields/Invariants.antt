use Rattle.std.specs.Prelude.{◌++◌, codes, drop}
use Rattle.std.specs.List.{flat_map}
use Rattle.ele_output.specs.Prints.{outlet}
use Rattle.ele_rule_forecast.specs.RuledCsv.{kept_field, kept_fields}
use Rattle.ele_output.proofs.Known.{HasPut}
use Rattle.ele_rule_forecast.proofs.csv.put_kept_fields.Given as goal

-- the fields so far are put, and the others and the end of the row are left
abbrev pub invariant-loop-rule : goal.invariant-loop-rule
invariant-loop-rule g l =
    HasPut (outlet g.W.Write.contents l.fn.printer) (outlet g.W.Write.contents l.printer) (kept_fields l.rules l.number) (flat_map (kept_field l.number) (drop l.rule-index l.rules) ++ codes "\n")
