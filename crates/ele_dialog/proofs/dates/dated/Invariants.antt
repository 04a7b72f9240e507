use Rattle.std.specs.Prelude.{map}
use Rattle.ele_dialog.proofs.Dated.{LinesSoFar}
use Rattle.ele_dialog.proofs.dates.dated.Given as goal

-- the lines so far
abbrev pub invariant-loop-line : goal.invariant-loop-line
invariant-loop-line l = LinesSoFar l.fn.places (map (λ line. line.now) l.yielded) l.front l.shown.items
