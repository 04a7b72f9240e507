use Rattle.std.proofs.Common.{sym, ◌∙◌, arith}
use Rattle.std.proofs.lemmas.Bool.Decides.{nat_tests}
use Rattle.ele_policy.proofs.Rungs.{filled}
use Rattle.ele_policy.proofs.ladder.Ladder.new.Goals as goal

pub invariant_of-result : goal.invariant_of-result
invariant_of-result c =
    let some = c.if-is_empty.ensures in
    rw c.copy_from_slice.ensures.after (filled c.args.pairs.now (record { some = grind (arith, nat_tests); short = c.if-pairs-gt-MOST_PAIRS.false; climbing = sym c.climbs.ensures ∙ c.if-not-climbs.false }))
