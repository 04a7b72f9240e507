use Rattle.std.proofs.Common.{◌≡◌, ◌≤◌, drop}
use Rattle.std.specs.List.{fold}
use Rattle.std.specs.Prelude.{max}
use Rattle.ele_svg.proofs.curve.highest_in.Given as goal

-- the other counts are left
abbrev pub invariant-loop-count : goal.invariant-loop-count
invariant-loop-count l = (fold max l.most (drop l.count-index l.counts) ≡ fold max l.fn.highest l.counts) × (l.fn.highest ≤ l.most)
