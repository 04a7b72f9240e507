use Rattle.ele_names.proofs.Newest.{below_first, below_later, below_more, below_same, stands_first, stands_later}
use Rattle.ele_names.proofs.Words.{Some, Option, Born, is_entry, true, ap, cond, has, nat_cmp, nat_eq, sym, ◌∙◌}
use Rattle.ele_names.proofs.birth_index.BirthIndex.insert.Goals as goal

pub returns-in_default-clause-ok : goal.returns-in_default-clause-ok
returns-in_default-clause-ok c =
    stands_first c.args.self.now c.set.new.self c.args.number c.args.birth c.args.serial
    (λ q. c.set.ensures.newest q ∙ ap (λ (o : Option Born). cond (nat_eq c.args.number q) (Some (record { birth = c.args.birth; serial = c.args.serial })) o) (c.in_ok-know.ensures.newest q))
    (sym (c.in_ok-know.ensures.newest c.args.number) ∙ sym c.newest.ensures ∙ c.in_default.is) (λ q r s. ap (λ o. has nat_cmp o q r s) (c.set.ensures.older ∙ c.in_ok-know.ensures.older))

pub returns-in_default-clause-below : goal.returns-in_default-clause-below
returns-in_default-clause-below c =
    below_first c.args.self.now c.set.new.self c.args.number c.args.birth c.args.serial
    (λ q. c.set.ensures.newest q ∙ ap (λ (o : Option Born). cond (nat_eq c.args.number q) (Some (record { birth = c.args.birth; serial = c.args.serial })) o) (c.in_ok-know.ensures.newest q))
    (sym (c.in_ok-know.ensures.newest c.args.number) ∙ sym c.newest.ensures ∙ c.in_default.is) (λ q r s. ap (λ o. has nat_cmp o q r s) (c.set.ensures.older ∙ c.in_ok-know.ensures.older))

pub returns-in_err-insert-clause-below : goal.returns-in_err-insert-clause-below
returns-in_err-insert-clause-below c = below_same _ _ c.in_ok-know.ensures.newest (λ q r s. c.in_err-insert.ensures.err q r s ∙ ap (λ o. has nat_cmp o q r s) c.in_ok-know.ensures.older)

pub returns-then-is_up_to-clause-below : goal.returns-then-is_up_to-clause-below
returns-then-is_up_to-clause-below c =
    below_more _ _ c.args.number c.args.birth c.args.serial c.in-Some.newest (sym (c.in_ok-know.ensures.newest c.args.number) ∙ sym c.newest.ensures ∙ c.in-Some.is) (sym c.if-is_up_to.ensures) c.in_ok-know.ensures.newest
    (λ q r s. c.in_ok-insert.ensures.ok q r s ∙ ap (λ o. cond (is_entry nat_cmp c.args.number c.args.birth c.args.serial q r s) true (has nat_cmp o q r s)) c.in_ok-know.ensures.older)

pub returns-in_err-insert-2-clause-below : goal.returns-in_err-insert-2-clause-below
returns-in_err-insert-2-clause-below c = below_same _ _ c.in_ok-know.ensures.newest (λ q r s. c.in_err-insert-2.ensures.err q r s ∙ ap (λ o. has nat_cmp o q r s) c.in_ok-know.ensures.older)

pub returns-clause-ok : goal.returns-clause-ok
returns-clause-ok c =
    let e = c.in-Some.newest in
    stands_later c.args.self.now c.set-2.new.self c.args.number c.args.birth c.args.serial
    (λ q. c.set-2.ensures.newest q ∙ ap (λ (o : Option Born). cond (nat_eq c.args.number q) (Some (record { birth = c.args.birth; serial = c.args.serial })) o) (c.in_ok-know.ensures.newest q))
    e (sym (c.in_ok-know.ensures.newest c.args.number) ∙ sym c.newest.ensures ∙ c.in-Some.is)
    (λ q r s. ap (λ o. has nat_cmp o q r s) c.set-2.ensures.older ∙ c.in_ok-insert-2.ensures.ok q r s ∙ ap (λ o. cond (is_entry nat_cmp c.args.number e.birth e.serial q r s) true (has nat_cmp o q r s)) c.in_ok-know.ensures.older)

pub returns-clause-below : goal.returns-clause-below
returns-clause-below c =
    let e = c.in-Some.newest in
    below_later c.args.self.now c.set-2.new.self c.args.number c.args.birth c.args.serial
    (λ q. c.set-2.ensures.newest q ∙ ap (λ (o : Option Born). cond (nat_eq c.args.number q) (Some (record { birth = c.args.birth; serial = c.args.serial })) o) (c.in_ok-know.ensures.newest q))
    e (sym (c.in_ok-know.ensures.newest c.args.number) ∙ sym c.newest.ensures ∙ c.in-Some.is)
    (λ q r s. ap (λ o. has nat_cmp o q r s) c.set-2.ensures.older ∙ c.in_ok-insert-2.ensures.ok q r s ∙ ap (λ o. cond (is_entry nat_cmp c.args.number e.birth e.serial q r s) true (has nat_cmp o q r s)) c.in_ok-know.ensures.older)
    (sym c.if-is_up_to.ensures)
