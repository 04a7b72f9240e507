use Rattle.ele_fates.proofs.Words.{◌≡◌, None, Some, arith, has_member, nat_tests, sym, true, ◌∙◌}
use Rattle.ele_fates.proofs.OtherGroups.{longer_again, members_have}
use Rattle.ele_fates.proofs.change.covers.Goals as goal

pub returns-in-Unmarked-clause-was : goal.returns-in-Unmarked-clause-was
returns-in-Unmarked-clause-was c =
    let member = sym (members_have c.args.groups.now c.in-Unmarked.name c.args.file) ∙ (rw c.in-Unmarked.is at c.requires.member) in
    c.with_group-in-Unmarked.ensures ∙ rw c.cover_without.ensures (longer_again c.args.groups.now c.in-Unmarked.name (Some c.in-Unmarked.mark) c.args.file c.args.closed (Some c.args.ended) c.requires.named member)

pub returns-in-Left-clause-was : goal.returns-in-Left-clause-was
returns-in-Left-clause-was c =
    let member : has_member c.args.groups.now c.in-Left.name c.args.file ≡ true = grind (arith, nat_tests, members_have c.args.groups.now c.in-Left.name c.args.file, c.in-Left.is, c.requires.leaving, c.requires.member) in
    c.with_group-in-Left.ensures ∙ rw c.cover_without-in-Left.ensures (longer_again c.args.groups.now c.in-Left.name None c.args.file c.args.closed (Some c.args.ended) c.requires.named member)
