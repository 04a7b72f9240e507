use Rattle.std.proofs.Common.{◌≡◌, ◌++◌}
use Rattle.ele_time_path.proofs.listed.names_of.Given as goal

-- the names so far are in the list, and the others are left
abbrev pub invariant-loop-name : goal.invariant-loop-name
invariant-loop-name l = l.names.items ++ l.name-iterator ≡ l.path
