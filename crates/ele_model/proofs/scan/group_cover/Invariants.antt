use Rattle.ele_model.proofs.Basics.{◌≡◌, take}
use Rattle.ele_model.proofs.Words.{cover_by}
use Rattle.ele_model.proofs.scan.group_cover.Given as goal

abbrev pub invariant-loop-mark : goal.invariant-loop-mark
invariant-loop-mark l = l.cover ≡ cover_by l.closed l.ended (take l.mark-index l.group.marks)
