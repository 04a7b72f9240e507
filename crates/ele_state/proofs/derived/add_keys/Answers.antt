use Rattle.ele_state.proofs.Words.{◌∙◌, world_of}
use Rattle.ele_state.proofs.OfRows.{all_keys, one_more_key}
use Rattle.std.proofs.lemmas.List.{take_all}
use Rattle.ele_state.proofs.derived.add_keys.Goals as goal

pub loop-info-preserved : goal.loop-info-preserved
loop-info-preserved c =
    one_more_key (world_of c.args.rows.now) c.args.file c.as_slice-info-items.result.now c.loop-info.info-index c.info-item.result _ _ _ _ c.loop-info-test.true c.info-item.is c.ripe_moment-moment.ensures c.in_ok-put.ensures.ok c.loop-info.invariant

pub returns : goal.returns
returns c =
    let has = rw (take_all c.loop-info.info-index c.as_slice-info-items.result.now c.loop-info-test.false) at c.loop-info.invariant in
    all_keys (world_of c.args.rows.now) c.args.file c.as_slice-info-items.result.now _ _ (c.as_slice-info-items.ensures ∙ c.in_ok-held.ensures) has
