use Rattle.std.specs.Prelude.{map}
use Rattle.ele_dialog.specs.Walk.{AddsDates}
use Rattle.ele_dialog.proofs.dates.add_moments.Given as goal

-- the dates of the parts so far
abbrev pub invariant-loop-part : goal.invariant-loop-part
invariant-loop-part l =
    AddsDates l.fn.first (map (λ part. part.now) l.yielded) l.front l.fn.shown.items l.shown.items
