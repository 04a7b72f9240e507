use Rattle.std.proofs.lemmas.Map.Text.{is_eq-slice_cmp}
use Rattle.ele_well_formed.proofs.Words.{GroupRow, arith, bytes_eq, false, list_any, nat_tests, take, true, ◌≡◌}
use Rattle.ele_well_formed.proofs.Rows.{IsAt, any_more, apart_more, apart_wrong}
use Rattle.ele_well_formed.proofs.groups.second_group.Goals as goal

pub returns-then-not-branch-clause-some : goal.returns-then-not-branch-clause-some
returns-then-not-branch-clause-some c =
    let xs = c.args.rows.now in
    let x = c.index-rows-at.result in
    let here : IsAt xs c.loop-at.at x = record { within = omega arith; is = c.index-rows-at.is } in
    let any : list_any (λ (row : GroupRow). bytes_eq row.name x.name) (take c.loop-at.at xs) ≡ true = grind (arith, nat_tests, c.in_ok-insert.ensures.added, c.if-not-branch.true, c.loop-at.invariant.seen x.name) in
    apart_wrong (λ (y z : GroupRow). bytes_eq y.name z.name) xs c.loop-at.at x here any

pub loop-at-preserved : goal.loop-at-preserved
loop-at-preserved c =
    let xs = c.args.rows.now in
    let at = c.loop-at.at in
    let x = c.index-rows-at.result in
    let here : IsAt xs at x = record { within = omega arith; is = c.index-rows-at.is } in
    let none : list_any (λ (row : GroupRow). bytes_eq row.name x.name) (take at xs) ≡ false = grind (arith, nat_tests, c.in_ok-insert.ensures.added, c.if-not-branch.false, c.loop-at.invariant.seen x.name) in
    record { seen = λ q. grind (arith, nat_tests, c.in_ok-insert.ensures.updates.0 q, c.loop-at.invariant.seen q, any_more (λ (row : GroupRow). bytes_eq row.name q) xs at x here, is_eq-slice_cmp x.name q); apart = apart_more (λ (y z : GroupRow). bytes_eq y.name z.name) xs at x here none c.loop-at.invariant.apart }
