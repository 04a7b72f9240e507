use Rattle.ele_sessions.proofs.Basics.{◌≡◌, counted}
use Rattle.ele_sessions.proofs.Words.{Reads, reading, reads_eq}
use Rattle.std.proofs.Common.{take}
use Rattle.ele_sessions.proofs.entries.tally_of.Given as goal

abbrev pub invariant-loop-handle : goal.invariant-loop-handle
invariant-loop-handle l = (what : Reads) → counted reads_eq l.counts what ≡ reading what (take l.handle-index l.handles)
