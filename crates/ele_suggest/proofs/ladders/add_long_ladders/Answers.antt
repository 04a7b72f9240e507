use Rattle.std.proofs.Common.{ℕ, ◌<◌, arith, length}
use Rattle.ele_suggest.specs.Candidates.{ladders_of, long_widths}
use Rattle.ele_suggest.proofs.Steps.{added_at}
use Rattle.ele_suggest.proofs.ladders.add_long_ladders.Goals as goal

pub loop-long-preserved : goal.loop-long-preserved
loop-long-preserved c =
    let lt : c.loop-long.long-index < length long_widths = omega arith in
    added_at (λ (long : ℕ). ladders_of c.args.spans.now (record { short = c.args.short; long = long })) long_widths c.loop-long.long-index _ _ _ _ lt c.loop-long.invariant c.in_ok-add_ladder.ensures
