use Rattle.std.proofs.Common.{◌≡◌, drop}
use Rattle.ele_keeper.specs.Kept.{state_of}
use Rattle.ele_keeper.specs.Replays.{after_changes}
use Rattle.ele_keeper.proofs.replaying.replay.Given as goal
use Rattle.ele_runs.specs.Kept.{has_past}

-- the changes that are left lead to where all do, and a history is there or not as before
abbrev pub invariant-loop-change : goal.invariant-loop-change
invariant-loop-change l =
    (after_changes (state_of l.keeper) (drop l.change-index l.changes) ≡ after_changes (state_of l.initial.keeper) l.changes)
    × (has_past (state_of l.keeper) ≡ has_past (state_of l.initial.keeper))
