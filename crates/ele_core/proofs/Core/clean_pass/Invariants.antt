use Rattle.ele_model.proofs.Words.{IsCleaned}
use Rattle.ele_core.proofs.Core.clean_pass.Given as goal

abbrev pub invariant-loop-removed : goal.invariant-loop-removed
invariant-loop-removed l = IsCleaned l.fn.self.world l.removed l.self.world
