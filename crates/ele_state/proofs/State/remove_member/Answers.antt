use Rattle.ele_state.proofs.Words.{RemoveMember}
use Rattle.ele_state.proofs.SoundAfter.{settled_or}
use Rattle.ele_state.proofs.State.remove_member.Goals as goal

pub invariant_of-self : goal.invariant_of-self
invariant_of-self c = settled_or c.self.inside.rows _ c.self.view_is c.self.invariant c.regroup.result (RemoveMember c.args.name.now c.args.file) tt tt c.regroup.new.rows c.regroup.ensures.ok c.regroup.ensures.err c.regroup.ensures.tracked
