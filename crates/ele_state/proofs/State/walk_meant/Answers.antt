use Rattle.ele_state.proofs.Walked.{targets_there}
use Rattle.ele_path.specs.declared.tagged.Tag.TheVariants as tag
use Rattle.ele_state.proofs.State.walk_meant.Goals as goal

pub returns-in-At-clause-there : goal.returns-in-At-clause-there
returns-in-At-clause-there c = rw (← c.self.view_is) (targets_there c.self.inside.rows c.self.invariant.sound c.args.path.now (tag.At c.in-At.moment) c.resolve_at.result c.resolve_at.ensures)

pub returns-in-Now-clause-there : goal.returns-in-Now-clause-there
returns-in-Now-clause-there c = rw (← c.self.view_is) (targets_there c.self.inside.rows c.self.invariant.sound c.args.path.now tag.Now c.resolve_now.result c.resolve_now.ensures)

pub returns-in-Number-clause-there : goal.returns-in-Number-clause-there
returns-in-Number-clause-there c = rw (← c.self.view_is) (targets_there c.self.inside.rows c.self.invariant.sound c.args.path.now tag.Now c.resolve_now-in-Number.result c.resolve_now-in-Number.ensures)
