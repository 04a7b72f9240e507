use Rattle.ele_state.proofs.Words.{world_of}
use Rattle.ele_state.proofs.OfRows.{is_queued, one_more_keys}
use Rattle.std.proofs.lemmas.List.{take_all}
use Rattle.ele_state.proofs.derived.queue_of.Goals as goal

pub loop-file-preserved : goal.loop-file-preserved
loop-file-preserved c =
    one_more_keys (world_of c.args.rows.now) c.args.files.now c.loop-file.file-index _ _ _ c.loop-file-test.true c.file-item.is c.in_ok-add_keys.ensures c.loop-file.invariant

pub returns : goal.returns
returns c =
    let has = rw (take_all c.loop-file.file-index c.args.files.now c.loop-file-test.false) at c.loop-file.invariant in
    is_queued (world_of c.args.rows.now) _ c.requires.formed (rw c.requires.files at has)
