use Rattle.std.specs.Prelude.{◌≡◌}
use Rattle.ele_svg.specs.Summary.{moments_until}
use Rattle.ele_svg.proofs.columns.moments_until.Given as goal

-- those so far
abbrev pub invariant-loop-column : goal.invariant-loop-column
invariant-loop-column l = l.moments.items ≡ moments_until l.page l.column
