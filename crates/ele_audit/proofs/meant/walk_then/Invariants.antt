use Rattle.ele_audit.proofs.Basics.{◌≡◌}
use Rattle.ele_model.specs.WalkAt.{walk_covering}
use Rattle.ele_model.specs.World.{root}
use Rattle.ele_model.specs.declared.rows.Target.TheVariants.{Directory}
use Rattle.ele_audit.proofs.meant.walk_then.Given as goal

-- the names so far led there, and the others are left
abbrev pub invariant-loop-name : goal.invariant-loop-name
invariant-loop-name l = walk_covering l.rows l.moment l.at l.name-iterator ≡ walk_covering l.rows l.moment (Directory root) l.path
