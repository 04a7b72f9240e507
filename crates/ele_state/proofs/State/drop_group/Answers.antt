use Rattle.ele_state.proofs.Words.{DropGroup}
use Rattle.ele_state.proofs.SoundAfter.{settled_or}
use Rattle.ele_state.proofs.State.drop_group.Goals as goal

pub invariant_of-self : goal.invariant_of-self
invariant_of-self c = settled_or c.self.inside.rows _ c.self.view_is c.self.invariant c.regroup.result (DropGroup c.args.name.now) tt tt c.regroup.new.rows c.regroup.ensures.ok c.regroup.ensures.err c.regroup.ensures.tracked
