use Rattle.ele_state.proofs.Words.{◌≡◌, true, EndFileName, arith, nat_tests, refl, is_live, without_name, world_of}
use Rattle.ele_state.proofs.SoundAfter.{settled_by, settled_or}
use Rattle.ele_state.proofs.Unlinked.{others_live, unlinked_queue}
use Rattle.ele_state.proofs.State.end_file_name.Goals as goal

pub invariant_of-self : goal.invariant_of-self
invariant_of-self c = settled_or c.self.inside.rows _ c.self.view_is c.self.invariant c.end_last_name.result (EndFileName c.args.directory c.args.name.now c.args.file) c.requires tt c.end_last_name.new.rows c.end_last_name.ensures.ok c.end_last_name.ensures.err c.end_last_name.ensures.tracked

pub invariant_of-self-2 : goal.invariant_of-self-2
invariant_of-self-2 c =
    let live : is_live (without_name (world_of c.self.inside.rows) c.args.directory c.args.name.now) c.args.file ≡ true = grind (arith, nat_tests, others_live c.self.inside.rows c.args.directory c.args.name.now c.args.file c.self.invariant.sound (rw (← c.self.view_is) at c.requires)) in
    settled_by c.self.inside.rows _ c.self.view_is c.self.invariant (EndFileName c.args.directory c.args.name.now c.args.file) c.requires tt _ (rw (c.kill_found.ensures, live) refl) (record { queue = rw c.kill_found.ensures (unlinked_queue c.self.inside.rows c.args.directory c.args.name.now c.args.file c.self.invariant.sound (rw (← c.self.view_is) at c.requires) live); book = c.self.invariant.sound.tracked.book; bounds = c.self.invariant.sound.tracked.bounds })
