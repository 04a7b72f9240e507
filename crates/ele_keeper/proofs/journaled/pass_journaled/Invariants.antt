use Rattle.ele_keeper.specs.Kept.{state_of}
use Rattle.ele_keeper.proofs.journaled.pass_journaled.Given as goal
use Rattle.ele_runs.specs.Kept.{Journaled, RemovesMany}

abbrev pub invariant-loop-removed : goal.invariant-loop-removed
invariant-loop-removed l = RemovesMany (Journaled (state_of l.initial.keeper) l.initial.journal) l.removed (Journaled (state_of l.keeper) l.journal)
