use Rattle.ele_state.proofs.Words.{arith, refl}
use Rattle.ele_state.proofs.Booked.{fits, opened_owed}
use Rattle.ele_state.proofs.Bounded.{rows_few}
use Rattle.ele_state.proofs.OpenedKeys.{opened_queue, opened_settles}
use Rattle.ele_state.proofs.State.open_write.Goals as goal

pub open_write-requires-clause-few : goal.open_write-requires-clause-few
open_write-requires-clause-few c = omega (arith, rows_few c.self.inside.rows c.self.invariant.sound)

pub follow_blocks-requires-clause-owed : goal.follow_blocks-requires-clause-owed
follow_blocks-requires-clause-owed c = opened_owed c.self.inside.rows c.args.file c.open_write.new.self c.blocks-before.result c.self.invariant.sound.tracked c.blocks-before.ensures.value c.in_ok-number.ensures.ok

pub follow_blocks-requires-clause-fits : goal.follow_blocks-requires-clause-fits
follow_blocks-requires-clause-fits c = fits c.self.inside.rows c.self.invariant.sound

pub invariant_of-self-2 : goal.invariant_of-self-2
invariant_of-self-2 c = opened_settles c.self.inside.rows c.self.invariant c.args.file (rw (← c.self.view_is) at c.requires.there) (rw (← c.self.view_is) at c.requires.handles) (rw (← c.self.view_is) at c.requires.versions) _ (rw c.in_ok-number.ensures.ok refl)
    (rw c.in_ok-number.ensures.ok (record { queue = opened_queue c.self.inside.rows c.args.file c.self.invariant.sound; book = rw c.in_ok-number.ensures.ok at c.follow_blocks.ensures; bounds = c.self.invariant.sound.tracked.bounds }))
