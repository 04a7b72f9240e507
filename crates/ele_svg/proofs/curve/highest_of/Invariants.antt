use Rattle.std.proofs.Common.{◌≡◌, ◌<◌, drop}
use Rattle.std.specs.List.{fold}
use Rattle.ele_svg.specs.Curve.{highest_at, highest_of}
use Rattle.ele_svg.proofs.curve.highest_of.Given as goal

-- the other points are left
abbrev pub invariant-loop-row : goal.invariant-loop-row
invariant-loop-row l = (fold highest_at l.highest (drop l.row-index l.rows) ≡ highest_of l.rows) × (0 < l.highest)
