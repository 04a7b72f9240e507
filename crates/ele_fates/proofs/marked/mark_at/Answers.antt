use Rattle.ele_fates.proofs.Words.{Some, arith, nat_tests}
use Rattle.ele_fates.proofs.Marks.{its_mark, no_mark, no_member}
use Rattle.ele_fates.proofs.marked.mark_at.Goals as goal

pub returns-then-not-is_member-clause-none : goal.returns-then-not-is_member-clause-none
returns-then-not-is_member-clause-none c =
    no_member c.args.groups.now c.args.place c.in_ok-name.name.now c.in_ok-name._files.now c.in_ok-name.marks.now c.args.file c.args.closed (Some c.args.ended) c.args.now c.requires.named c.in_ok-name.ensures.some (grind (arith, nat_tests, c.is_member.ensures, c.if-not-is_member.true))

pub returns-in_err-mark-clause-none : goal.returns-in_err-mark-clause-none
returns-in_err-mark-clause-none c = grind (arith, nat_tests, no_mark c.args.groups.now c.args.place c.in_ok-name.name.now c.in_ok-name._files.now c.in_ok-name.marks.now c.args.file c.args.closed (Some c.args.ended) c.args.now c.requires.named c.in_ok-name.ensures.some)

pub returns-clause-some : goal.returns-clause-some
returns-clause-some c =
    its_mark c.args.groups.now c.args.place c.in_ok-name.name.now c.in_ok-name._files.now c.in_ok-name.marks.now c.args.file c.args.closed (Some c.args.ended) c.args.now c.requires.named c.in_ok-name.ensures.some c.in_ok-mark.mark (grind (arith, nat_tests, c.is_member.ensures, c.if-not-is_member.false)) (grind (arith, nat_tests, c.first_keeping.ensures))
