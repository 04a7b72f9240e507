use Rattle.ele_groups.proofs.Basics.{arith, sym, ap, ◌∙◌, take_all, nat_tests, take, ◌+◌, ◌≡◌}
use Rattle.ele_groups.proofs.Words.{Always}
use Rattle.ele_groups.proofs.Covered.{all_groups, at_all, all_more, stays_always}
use Rattle.ele_groups.proofs.covering.cover.Goals as goal

pub loop-membership-preserved : goal.loop-membership-preserved
loop-membership-preserved c =
    let span = c.args.span.now in
    grind (arith, nat_tests, all_more span.except c.args.file span.closed span.ended c.args.rows.now.entries c.of-membership-items.result.now c.loop-membership.membership-index c.membership-item.result)

pub returns : goal.returns
returns c =
    let span = c.args.span.now in
    let these = c.of-membership-items.result.now in
    rw (take_all c.loop-membership.membership-index these (omega arith), c.of-membership-items.ensures) at (c.loop-membership.invariant)
    ∙ all_groups span.except c.args.file span.closed span.ended c.args.rows.now.entries c.args.memberships.now c.requires

pub returns-in-Always : goal.returns-in-Always
returns-in-Always c =
    let span = c.args.span.now in
    let these = c.of-membership-items.result.now in
    let i = c.loop-membership.membership-index in
    let longest = at_all span.except c.args.file span.closed span.ended c.args.rows.now.entries in
    let more = all_more span.except c.args.file span.closed span.ended c.args.rows.now.entries these i c.membership-item.result c.loop-membership-test.true c.membership-item.is in
    let always : longest (take (i + 1) these) ≡ Always = grind (arith, nat_tests, more, c.loop-membership.invariant, c.longer-cover.ensures, c.cover_in.ensures, c.in-Always.is) in
    sym (stays_always span.except c.args.file span.closed span.ended c.args.rows.now.entries these (i + 1) always)
    ∙ ap longest c.of-membership-items.ensures
    ∙ all_groups span.except c.args.file span.closed span.ended c.args.rows.now.entries c.args.memberships.now c.requires
