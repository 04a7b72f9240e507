use Rattle.std.proofs.Common.{◌<◌, arith, length}
use Rattle.ele_suggest.specs.Candidates.{long_ladders, short_widths}
use Rattle.ele_suggest.proofs.Steps.{added_at}
use Rattle.ele_suggest.proofs.ladders.add_ladders.Goals as goal

pub loop-short-preserved : goal.loop-short-preserved
loop-short-preserved c =
    let lt : c.loop-short.short-index < length short_widths = omega arith in
    added_at (long_ladders c.args.spans.now) short_widths c.loop-short.short-index _ _ _ _ lt c.loop-short.invariant c.in_ok-add_long_ladders.ensures
