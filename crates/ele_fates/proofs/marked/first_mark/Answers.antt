use Rattle.std.proofs.Common.{add-one}
use Rattle.ele_fates.proofs.Words.{◌≡◌, false, Some, arith, GroupRow}
use Rattle.ele_lists.proofs.Taken.{all-one_more, any-none_taken}
use Rattle.ele_fates.proofs.Marks.{is_marking, marked_first}
use Rattle.ele_fates.proofs.marked.first_mark.Goals as goal

pub returns-in-Some-clause-some : goal.returns-in-Some-clause-some
returns-in-Some-clause-some c = marked_first c.args.groups.now c.loop-place.place c.args.file c.args.closed (Some c.args.ended) c.args.now _ _ c.loop-place.invariant c.in-Some.ensures.some

pub loop-place-preserved : goal.loop-place-preserved
loop-place-preserved c = rw (add-one c.loop-place.place) (all-one_more (λ (g : GroupRow). is_marking c.args.file c.args.closed (Some c.args.ended) c.args.now g ≡ false) c.args.groups.now c.loop-place.place c.loop-place.invariant c.in_default.ensures.none)

pub returns-clause-none : goal.returns-clause-none
returns-clause-none c = any-none_taken (is_marking c.args.file c.args.closed (Some c.args.ended) c.args.now) c.args.groups.now c.loop-place.place (omega (arith, c.loop-place-test.false, c.len-place-end.ensures)) c.loop-place.invariant
