use Rattle.ele_state.proofs.Words.{IsInfoOf, refl, ◌∙◌}
use Rattle.ele_lists.proofs.Taken.{all-at}
use Rattle.ele_state.proofs.Changes.{both_change}
use Rattle.ele_state.proofs.Governed.{all_under, one_more, stamps_told}
use Rattle.std.proofs.lemmas.List.{take_all}
use Rattle.std.proofs.lemmas.Option.{slice_get_read}
use Rattle.ele_state.proofs.policy.changes_under.Goals as goal

pub change_under-requires : goal.change_under-requires
change_under-requires c =
    let at = slice_get_read c.as_slice-info-items.result.now _ c.loop-info.info-index c.info-item.result refl c.loop-info-test.true c.info-item.is in
    all-at (IsInfoOf c.args.rows.now.files c.args.file) c.as_slice-info-items.result.now c.loop-info.info-index c.info-item.result at (stamps_told c.args.rows.now c.args.file c.as_slice-info-items.result.now c.requires (c.as_slice-info-items.ensures ∙ c.in_ok-held.ensures))

pub loop-info-preserved : goal.loop-info-preserved
loop-info-preserved c =
    let more = one_more c.args.file c.as_slice-info-items.result.now c.loop-info.info-index c.info-item.result c.loop-info-test.true c.info-item.is in
    rw c.in_ok-add_change.ensures (both_change _ _ _ _ _ _ _ more c.loop-info.invariant c.change_under.ensures)

pub returns : goal.returns
returns c =
    let are = rw (take_all c.loop-info.info-index c.as_slice-info-items.result.now c.loop-info-test.false) at c.loop-info.invariant in
    all_under c.args.rows.now.groups c.args.rows.now.files c.args.file c.args.was.now c.args.is.now c.as_slice-info-items.result.now c.loop-info.changes.items (c.as_slice-info-items.ensures ∙ c.in_ok-held.ensures) are
