use Rattle.std.proofs.Common.{◌∙◌, ap}
use Rattle.ele_against.specs.Compared.{is_among}
use Rattle.ele_against.proofs.NamesMore.{unknown_more}
use Rattle.ele_against.proofs.compared.unknown_in.Goals as goal

pub loop-place-preserved : goal.loop-place-preserved
loop-place-preserved c =
    let known = c.has-is_known.ensures ∙ c.in_ok-names.ensures _ ∙ ap (is_among c.args.labels.now) c.as_slice.ensures.value in
    unknown_more c.args.labels.now c.args.others.now c.loop-place.place c.index-others-place.result _ c.loop-place.lines.items c.add_if_unknown.new.lines.items _ c.loop-place-test.true c.index-others-place.is known c.loop-place.invariant c.in_ok-add_if_unknown.ensures
