use Rattle.ele_removals.proofs.Basics.{drop}
use Rattle.ele_audit.proofs.Gathers.{Gathers}
use Rattle.ele_removals.specs.Expiring.{IsExpiry}
use Rattle.ele_removals.proofs.ahead.rows_of.Given as goal

-- the rows of the keys so far are there, and the others are left
abbrev pub invariant-loop-key : goal.invariant-loop-key
invariant-loop-key l = Gathers (IsExpiry l.names) l.keys (drop l.key-index l.keys) l.rows.items
