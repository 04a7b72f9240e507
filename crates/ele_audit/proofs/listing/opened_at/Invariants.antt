use Rattle.ele_audit.proofs.Basics.{drop}
use Rattle.ele_audit.proofs.Gathers.{Seeks}
use Rattle.ele_audit.proofs.listing.opened_at.Given as goal

-- none of the entries so far opened the handle, and the clock is the moment after them
abbrev pub invariant-loop-entry : goal.invariant-loop-entry
invariant-loop-entry g l = Seeks l.handle l.history.base l.entries (drop l.entry-index l.entries) l.clock
