use Rattle.ele_groups.proofs.Basics.{◌≡◌, length, filter}
use Rattle.ele_groups.proofs.Words.{forgotten, is_member}
use Rattle.ele_groups.proofs.groups.Groups.forget_file.Given as goal

abbrev pub invariant-loop-file : goal.invariant-loop-file
invariant-loop-file l = forgotten l.file l.self ≡ forgotten l.file l.initial.self

abbrev pub decreases-loop-file : goal.decreases-loop-file
decreases-loop-file l = length (filter (is_member l.file) l.self)
