use Rattle.ele_state.proofs.Words.{AddMark}
use Rattle.ele_state.proofs.SoundAfter.{settled_or}
use Rattle.ele_state.proofs.State.add_mark.Goals as goal

pub invariant_of-self : goal.invariant_of-self
invariant_of-self c = settled_or c.self.inside.rows _ c.self.view_is c.self.invariant c.regroup.result (AddMark c.args.name.now c.args.mark.now) (record { past = c.requires.past; ahead = c.requires.ahead; room = c.requires.room; free = c.requires.other }) tt c.regroup.new.rows c.regroup.ensures.ok c.regroup.ensures.err c.regroup.ensures.tracked
