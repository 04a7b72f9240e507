use Rattle.std.specs.Prelude.{◌++◌, drop}
use Rattle.std.specs.List.{flat_map}
use Rattle.ele_output.specs.Prints.{outlet}
use Rattle.ele_forecast_forms.specs.Compared.{compared_line, compared_text, stayings_text}
use Rattle.ele_output.proofs.Known.{HasPut}
use Rattle.ele_forecast_forms.proofs.compared.put_compared.Given as goal

-- the lines of the versions so far are put, and the others and those of the moments are left
abbrev pub invariant-loop-version : goal.invariant-loop-version
invariant-loop-version g l =
    HasPut (outlet g.W.Write.contents l.fn.printer) (outlet g.W.Write.contents l.printer) (compared_text l.details l.plans l.moments) (flat_map (compared_line l.details l.plans) (drop l.version-index l.versions) ++ stayings_text l.details l.plans l.moments)
