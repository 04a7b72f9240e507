use Rattle.std.specs.Prelude.{◌≡◌, ◌≤◌, take}
use Rattle.ele_svg.specs.Strips.{count_in}
use Rattle.ele_svg.proofs.strip.count_in.Given as goal

-- those of the versions so far
abbrev pub invariant-loop-forecast : goal.invariant-loop-forecast
invariant-loop-forecast l =
    (l.count ≡ count_in l.page l.fn.level l.fn.column (take l.forecast-index l.forecasts)) × (l.count ≤ l.forecast-index)
