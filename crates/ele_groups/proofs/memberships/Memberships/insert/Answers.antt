use Rattle.ele_groups.proofs.Basics.{[], ap, arith, bytes_eq, is_some, list_any-append, nat_tests, sym, ◌∷◌}
use Rattle.std.proofs.lemmas.Result.{on_err_weaker, on_ok_weaker}
use Rattle.ele_groups.proofs.memberships.Memberships.insert.Goals as goal

pub returns-in-Some-clause-ok : goal.returns-in-Some-clause-ok
returns-in-Some-clause-ok c =
    let updates = (c.get_mut.follows.holds c.add_to.new.memberships).3 (ap is_some (sym c.in-Some.ensures.value)) in
    on_ok_weaker c.add_to.result
    (λ is q n. grind (arith, nat_tests, is, updates.0 q, c.in-Some.ensures.value, list_any-append (λ other. bytes_eq other.name n) c.in-Some.memberships.now.items (c.args.membership ∷ [])))
    c.add_to.ensures.ok

pub returns-in-Some-clause-err : goal.returns-in-Some-clause-err
returns-in-Some-clause-err c =
    let updates = (c.get_mut.follows.holds c.add_to.new.memberships).3 (ap is_some (sym c.in-Some.ensures.value)) in
    on_err_weaker c.add_to.result (λ is q n. grind (arith, nat_tests, is, updates.0 q, c.in-Some.ensures.value)) c.add_to.ensures.err

pub returns-in_ok-insert-in-None-clause-ok : goal.returns-in_ok-insert-in-None-clause-ok
returns-in_ok-insert-in-None-clause-ok c = λ q n. grind (arith, nat_tests, c.in_ok-insert-in-None.ensures.updates.0 q, c.in_ok-memberships-in-None.ensures.items, c.in-None.ensures.value, c.get_mut.follows.holds-at-none)
