use Rattle.ele_state.proofs.Words.{AddMember}
use Rattle.ele_state.proofs.SoundAfter.{settled_or}
use Rattle.ele_state.proofs.State.add_member.Goals as goal

pub invariant_of-self : goal.invariant_of-self
invariant_of-self c = settled_or c.self.inside.rows _ c.self.view_is c.self.invariant c.regroup.result (AddMember c.args.name.now c.args.file) (record { there = c.requires.there; room = c.requires.room; free = c.requires.other }) tt c.regroup.new.rows c.regroup.ensures.ok c.regroup.ensures.err c.regroup.ensures.tracked
