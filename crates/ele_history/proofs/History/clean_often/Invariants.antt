use Rattle.ele_history.specs.Pass.{Removes}
use Rattle.ele_history.proofs.History.clean_often.Given as goal

abbrev pub invariant-loop-removed : goal.invariant-loop-removed
invariant-loop-removed g l = Removes l.fn.self l.removed l.self
