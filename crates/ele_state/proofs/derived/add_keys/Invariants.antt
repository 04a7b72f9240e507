use Rattle.ele_state.proofs.Words.{take, world_of}
use Rattle.ele_state.proofs.OfRows.{HasKeysOf}
use Rattle.ele_state.proofs.derived.add_keys.Given as goal

abbrev pub invariant-loop-info : goal.invariant-loop-info
invariant-loop-info l = HasKeysOf (world_of l.rows) l.file (take l.info-index l.info-items) l.fn.queue l.queue
