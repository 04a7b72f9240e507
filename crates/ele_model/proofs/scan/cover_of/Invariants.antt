use Rattle.ele_model.proofs.Basics.{◌≡◌, take}
use Rattle.ele_model.proofs.Words.{cover_of}
use Rattle.ele_model.proofs.scan.cover_of.Given as goal

abbrev pub invariant-loop-group : goal.invariant-loop-group
invariant-loop-group l = l.cover ≡ cover_of (take l.group-index l.groups) l.file l.closed l.ended
