use Rattle.ele_audit.proofs.Basics.{◌≡◌}
use Rattle.ele_audit.specs.Story.{last_meant}
use Rattle.ele_model.specs.Walk.{walk_by}
use Rattle.ele_model.specs.World.{root}
use Rattle.ele_model.specs.declared.rows.Target.TheVariants.{Directory}
use Rattle.ele_audit.proofs.story_file.walk_last.Given as goal

-- the names so far led there last, and the others are left
abbrev pub invariant-loop-name : goal.invariant-loop-name
invariant-loop-name l = walk_by (last_meant l.rows) l.at l.name-iterator ≡ walk_by (last_meant l.rows) (Directory root) l.path
