use Rattle.ele_name_paths.proofs.Basics.{length, ◌-◌}
use Rattle.ele_name_paths.proofs.Paths.{Climbs}
use Rattle.ele_name_paths.proofs.path.climb.Given as goal

-- so many names lead up to here
abbrev pub invariant-loop : goal.invariant-loop
invariant-loop l = Climbs l.above l.rows l.fn.target l.at (length l.rows - l.counter) l.names.items
