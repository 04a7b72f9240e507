use Rattle.ele_state.proofs.Words.{placed_of, world_of}
use Rattle.ele_state.proofs.ToldVersions.{found_info}
use Rattle.ele_state.proofs.State.fate_at.Goals as goal

pub fate_of-requires-clause-held : goal.fate_of-requires-clause-held
fate_of-requires-clause-held c = found_info (world_of c.self.inside.rows) c.args.tagged.now _ (placed_of (world_of c.self.inside.rows) c.self.invariant.sound.formed) (rw (← c.self.view_is) at c.in_ok-file.ensures.value)
