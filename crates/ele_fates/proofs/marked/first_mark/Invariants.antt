use Rattle.ele_fates.proofs.Words.{◌≡◌, false, Some, take, AllByRecursion, GroupRow}
use Rattle.ele_fates.proofs.Marks.{is_marking}
use Rattle.ele_fates.proofs.marked.first_mark.Given as goal

abbrev pub invariant-loop-place : goal.invariant-loop-place
invariant-loop-place l = AllByRecursion (λ (g : GroupRow). is_marking l.file l.closed (Some l.ended) l.now g ≡ false) (take l.place l.groups)
