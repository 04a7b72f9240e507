use Rattle.ele_names.proofs.Lemmas.{sym, arith, fewer, nat_tests, ◌∙◌, value_at, names_of, kept_without, others_stay, is_newest, none_of_file, its_file}
use Rattle.ele_names.proofs.names.Names.drop_one.Goals as goal

pub returns-in_default-clause-none : goal.returns-in_default-clause-none
returns-in_default-clause-none c = rw (← c.self.view_is) (λ _. none_of_file c.self.inside c.self.invariant c.args.file _ (rw c.file.view_is at c.newest.ensures) c.in_default.is)

pub invariant_of-self : goal.invariant_of-self
invariant_of-self c =
    let at = sym c.take.ensures.row ∙ c.in-Some-take.is in
    kept_without c.self.inside c.self.invariant c.in-Some.serial c.in-Some-take.row at _ _ c.leave-2.ensures.names (c.leave-2.ensures.listed c.self.invariant.listed)
    c.take.ensures.entries (c.leave.ensures.placed (names_of c.self.inside.live_names) (value_at c.self.inside.table.rows.entries) (sym c.in-Some-number.ensures.some.0) at
    (is_newest c.self.inside c.self.invariant c.args.file _ (rw c.file.view_is at c.newest.ensures) c.in-Some.serial c.in-Some.is c.in-Some-take.row at))
    c.leave-2.ensures.counted c.leave-2.ensures.numbered c.leave.ensures.live

pub returns-clause-others : goal.returns-clause-others
returns-clause-others c = rw (← c.self.view_is, c.take.ensures.entries)
    (others_stay c.self.inside c.self.invariant c.in-Some.serial c.in-Some-take.row (sym c.take.ensures.row ∙ c.in-Some-take.is) c.args.file
    (its_file c.self.inside c.self.invariant c.args.file _ (rw c.file.view_is at c.newest.ensures) c.in-Some.serial c.in-Some.is c.in-Some-take.row (sym c.take.ensures.row ∙ c.in-Some-take.is)))

pub returns-clause-fewer : goal.returns-clause-fewer
returns-clause-fewer c = grind (arith, nat_tests, fewer)
