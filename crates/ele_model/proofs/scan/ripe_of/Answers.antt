use Rattle.ele_model.proofs.Basics.{arith}
use Rattle.ele_model.proofs.DueKeys.{ripe-open, ripe-unfiled, ripe-unended, ripe-told}
use Rattle.ele_model.proofs.scan.ripe_of.Goals as goal

pub returns-in_default : goal.returns-in_default
returns-in_default c = ripe-unfiled c.args.world.now c.args.row.now (grind (arith, c.as_slice.ensures, c.policy_of.ensures, c.in_default.is))

pub returns-then-is_open : goal.returns-then-is_open
returns-then-is_open c = ripe-open c.args.world.now c.args.row.now c.in-Some.policy (grind (arith, c.as_slice.ensures, c.policy_of.ensures, c.in-Some.is)) c.lemma_valid.ensures.lawful (grind (arith, c.as_slice-2.ensures, c.is_open.ensures, c.if-is_open.true))

pub returns-in_default-ended : goal.returns-in_default-ended
returns-in_default-ended c = ripe-unended c.args.world.now c.args.row.now (grind (arith, c.as_slice-2.ensures, c.is_open.ensures, c.if-is_open.false)) c.in-Some.policy (grind (arith, c.as_slice.ensures, c.policy_of.ensures, c.in-Some.is)) c.lemma_valid.ensures.lawful c.in_default-ended.is

pub returns-in_default-2 : goal.returns-in_default-2
returns-in_default-2 c = rw c.in_default-2.is at (ripe-told c.args.world.now c.args.row.now (grind (arith, c.as_slice-2.ensures, c.is_open.ensures, c.if-is_open.false)) c.in-Some.policy (grind (arith, c.as_slice.ensures, c.policy_of.ensures, c.in-Some.is)) c.lemma_valid.ensures.lawful c.in-Some-ended.ended c.in_ok-ripe.field-0 c.in-Some-ended.is (grind (arith, c.as_slice-versions.ensures, c.as_slice-3.ensures, c.is_live-is_live.ensures, c.in_ok-ripe.ensures)))

pub returns : goal.returns
returns c = rw (c.ripe_past.ensures, c.cover_of.ensures, c.as_slice-groups.ensures) (rw c.in-Some-2.is at (ripe-told c.args.world.now c.args.row.now (grind (arith, c.as_slice-2.ensures, c.is_open.ensures, c.if-is_open.false)) c.in-Some.policy (grind (arith, c.as_slice.ensures, c.policy_of.ensures, c.in-Some.is)) c.lemma_valid.ensures.lawful c.in-Some-ended.ended c.in_ok-ripe.field-0 c.in-Some-ended.is (grind (arith, c.as_slice-versions.ensures, c.as_slice-3.ensures, c.is_live-is_live.ensures, c.in_ok-ripe.ensures))))
