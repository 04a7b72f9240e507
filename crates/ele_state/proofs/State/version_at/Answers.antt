use Rattle.ele_state.proofs.Words.{AllLater, ArePlaced, Shown, subst, arith, nat_tests, file_of, placed_of, world_of}
use Rattle.ele_state.proofs.ToldVersions.{found_cells, found_held, told_found}
use Rattle.ele_state.proofs.State.version_at.Goals as goal

pub version_meant-requires : goal.version_meant-requires
version_meant-requires c = grind (arith, nat_tests, file_of, c.self.view_is)

pub returns-clause-value : goal.returns-clause-value
returns-clause-value c = rw (← c.self.view_is) (grind (arith, nat_tests, told_found (world_of c.self.inside.rows), rw (← c.self.view_is) at c.walk_meant.ensures.value))

pub returns-clause-held : goal.returns-clause-held
returns-clause-held c = found_held c.args.self.now.world c.args.tagged.now _ (returns-clause-value c)

pub returns-clause-cells : goal.returns-clause-cells
returns-clause-cells c = found_cells c.args.self.now.world c.args.tagged.now _ (subst (λ (s : Shown). AllLater ArePlaced s.world.versions) c.self.view_is (placed_of (world_of c.self.inside.rows) c.self.invariant.sound.formed)) (returns-clause-value c)
