use Rattle.std.proofs.Common.{◌<◌, arith, length}
use Rattle.ele_suggest.proofs.Rows.{all_numbered, rows_more}
use Rattle.ele_suggest.proofs.versions.versions_of.Goals as goal

pub loop-place-preserved : goal.loop-place-preserved
loop-place-preserved c =
    let lt : c.loop-place.place < length c.args.closings.now = omega arith in
    rw c.in_ok-push.ensures.items (rows_more c.args.clock c.args.sizes.now c.args.closings.now c.loop-place.place c.loop-place.versions.items c.version_at.result lt c.version_at.ensures.closed c.version_at.ensures.number c.version_at.ensures.row c.loop-place.invariant.0 c.loop-place.invariant.1)

pub returns : goal.returns
returns c = all_numbered c.args.clock c.args.sizes.now c.args.closings.now c.loop-place.place c.loop-place.versions.items (omega arith) c.loop-place.invariant.0 c.loop-place.invariant.1
