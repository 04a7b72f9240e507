use Rattle.ele_audit.proofs.Basics.{drop}
use Rattle.ele_audit.proofs.Gathers.{Gathers}
use Rattle.ele_audit.specs.Open.{IsOpen}
use Rattle.ele_audit.proofs.listing.gathered.Given as goal

-- the rows of the handles so far are there
abbrev pub invariant-loop-row : goal.invariant-loop-row
invariant-loop-row g l = Gathers (IsOpen l.history) l.rows (drop l.row-index l.rows) l.handles.items
