use Rattle.ele_state.proofs.Words.{take, world_of}
use Rattle.ele_state.proofs.OfRows.{HasKeysIn}
use Rattle.ele_state.proofs.derived.queue_of.Given as goal

abbrev pub invariant-loop-file : goal.invariant-loop-file
invariant-loop-file l = HasKeysIn (world_of l.rows) (take l.file-index l.files) l.queue
