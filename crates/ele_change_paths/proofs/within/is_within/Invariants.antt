use Rattle.std.specs.Prelude.{◌≡◌}
use Rattle.ele_change_paths.specs.PathChanges.{is_within}
use Rattle.ele_change_paths.proofs.within.is_within.Given as goal

-- the names so far are equal, and the others are left
abbrev pub invariant-loop-step : goal.invariant-loop-step
invariant-loop-step l = is_within l.step-iterator l.rest ≡ is_within l.path l.names
