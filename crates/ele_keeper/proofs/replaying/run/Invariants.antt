use Rattle.std.proofs.Common.{◌≡◌, drop}
use Rattle.ele_keeper.specs.Kept.{state_of}
use Rattle.ele_keeper.specs.Replays.{after_events}
use Rattle.ele_keeper.proofs.replaying.run.Given as goal
use Rattle.ele_runs.specs.Kept.{has_past}

-- the events that are left lead to where all do, and a history is there or not as before
abbrev pub invariant-loop-event : goal.invariant-loop-event
invariant-loop-event l =
    (after_events (state_of l.keeper) (drop l.event-index l.events) ≡ after_events (state_of l.initial.keeper) l.events)
    × (has_past (state_of l.keeper) ≡ has_past (state_of l.initial.keeper))
