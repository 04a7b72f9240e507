use Rattle.std.proofs.Common.{◌≡◌, take}
use Rattle.ele_checkpoint.specs.Contents.{base_of}
use Rattle.ele_checkpoint.proofs.draft.base_of.Given as goal

-- no row from the place on is of the file
abbrev pub invariant-loop-place : goal.invariant-loop-place
invariant-loop-place l = base_of (take l.place l.rows) l.file ≡ base_of l.rows l.file
