use Rattle.ele_audit.proofs.Basics.{◌≡◌}
use Rattle.ele_model.specs.Walk.{walk, walk_now}
use Rattle.ele_audit.proofs.version.walk.Given as goal

-- the names so far lead there, and the others are left
abbrev pub invariant-loop-name : goal.invariant-loop-name
invariant-loop-name l = walk l.rows l.at l.name-iterator ≡ walk_now l.rows l.path
