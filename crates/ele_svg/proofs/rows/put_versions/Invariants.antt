use Rattle.std.specs.Prelude.{drop}
use Rattle.std.specs.List.{flat_map}
use Rattle.ele_output.specs.Prints.{outlet}
use Rattle.ele_svg.specs.Rows.{version_drawn}
use Rattle.ele_output.proofs.Known.{HasPut}
use Rattle.ele_svg.proofs.rows.put_versions.Given as goal

-- the versions so far are put, and the others are left
abbrev pub invariant-loop-forecast : goal.invariant-loop-forecast
invariant-loop-forecast g l =
    HasPut (outlet g.W.Write.contents l.fn.printer) (outlet g.W.Write.contents l.printer) (flat_map (version_drawn l.policy l.page) l.forecasts) (flat_map (version_drawn l.policy l.page) (drop l.forecast-index l.forecasts))
