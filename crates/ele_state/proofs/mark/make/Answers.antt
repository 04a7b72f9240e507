use Rattle.ele_state.proofs.Words.{arith}
use Rattle.ele_state.proofs.mark.make.Goals as goal

pub overflow_add-rows : goal.overflow_add-rows
overflow_add-rows c = let may = rw c.in-Marked.is at c.requires.may in omega (arith, may.room, c.requires.bounds.marks)

pub overflow_add-rows-in-Joined : goal.overflow_add-rows-in-Joined
overflow_add-rows-in-Joined c = let may = rw c.in-Joined.is at c.requires.may in omega (arith, may.room, c.requires.bounds.members)
