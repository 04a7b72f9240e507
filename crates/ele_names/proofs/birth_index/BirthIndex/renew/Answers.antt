use Rattle.ele_names.proofs.Newest.{below_none, below_renewed, stands_renewed}
use Rattle.ele_names.proofs.Words.{ap, has, nat_cmp, ◌∙◌}
use Rattle.ele_names.proofs.birth_index.BirthIndex.renew.Goals as goal

pub returns-in_default-clause-below : goal.returns-in_default-clause-below
returns-in_default-clause-below c = below_none _ _ c.args.number 0 0 c.set.ensures.newest c.in_default.ensures.none (λ q r s. ap (λ o. has nat_cmp o q r s) c.set.ensures.older)

pub returns-clause-left : goal.returns-clause-left
returns-clause-left c = stands_renewed c.args.self.now c.set-2.new.self c.args.number c.in-Some.birth c.in-Some.serial c.set-2.ensures.newest c.in-Some.ensures.some (λ q r s. ap (λ o. has nat_cmp o q r s) c.set-2.ensures.older ∙ c.remove.ensures q r s)

pub returns-clause-below : goal.returns-clause-below
returns-clause-below c = below_renewed c.args.self.now c.set-2.new.self c.args.number c.in-Some.birth c.in-Some.serial c.set-2.ensures.newest c.in-Some.ensures.some (λ q r s. ap (λ o. has nat_cmp o q r s) c.set-2.ensures.older ∙ c.remove.ensures q r s)
