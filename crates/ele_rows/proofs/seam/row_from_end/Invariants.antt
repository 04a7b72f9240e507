use Rattle.ele_rows.proofs.Words.{flat, reverse, slice_get, take, ◌≡◌}
use Rattle.ele_rows.proofs.seam.row_from_end.Given as goal

-- it is so many from the end of the remaining chunks
abbrev pub invariant-loop-place : goal.invariant-loop-place
invariant-loop-place g l = slice_get (reverse (flat l.chunks)) l.behind ≡ slice_get (reverse (flat (take l.place l.chunks))) l.left
