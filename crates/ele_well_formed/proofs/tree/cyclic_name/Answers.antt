use Rattle.ele_well_formed.proofs.Words.{None, Some, all-push, arith, nat_cmp, nat_tests, take, false, true, ◌≡◌}
use Rattle.std.specs.BTreeMap.{get}
use Rattle.std.specs.BTreeSet.{contains}
use Rattle.ele_model.specs.OneTree.{Hangs}
use Rattle.ele_well_formed.specs.Fault.{IsHung}
use Rattle.ele_well_formed.proofs.Rows.{IsAt, taken, there}
use Rattle.ele_well_formed.proofs.Climbs.{left_first, walk_hangs, walk_more, walk_round}
use Rattle.ele_well_formed.proofs.tree.cyclic_name.Goals as goal

pub loop-at-init : goal.loop-at-init
loop-at-init c = record { left = left_first c.args.names.now c.requires.homes c.requires.others c.requires.below (get nat_cmp c.in_ok-above.above) c.in_ok-above.ensures; hung = tt }

pub loop-parent-preserved : goal.loop-parent-preserved
loop-parent-preserved c =
    let names = c.args.names.now in
    let here = c.loop-parent.directory in
    let is : get nat_cmp c.loop-parent.above here ≡ Some c.in-Some.parent = grind (arith, c.remove.ensures.value, c.in-Some.is) in
    walk_more names c.requires.homes c.requires.others c.requires.below (get nat_cmp c.loop-parent.above) (contains nat_cmp c.loop-parent.passed) _ here c.loop-parent.invariant c.in-Some.parent (get nat_cmp c.remove.new.self) (contains nat_cmp c.insert.new.self) is
    (λ q. grind (arith, nat_tests, c.in-Some.ensures.updates.0 q))
    (λ q. grind (arith, nat_tests, c.in_ok-_new.ensures.updates.0 q))

pub returns-then-contains-clause-some : goal.returns-then-contains-clause-some
returns-then-contains-clause-some c =
    let names = c.args.names.now in
    let x = c.index-names-at.result in
    let from = c.row.inside.0.0.0 in
    let home : x.directory ≡ from = grind (arith, c.row.view_is) in
    let live : x.death ≡ None = grind (arith, c.is_some.ensures, c.if-is_some.false, c.row.view_is) in
    let here : IsAt names c.loop-at.at x = record { within = omega arith; is = c.index-names-at.is } in
    let again : contains nat_cmp c.loop-parent.passed c.loop-parent.directory ≡ true = grind (arith, c.contains.ensures, c.if-contains.true) in
    let never = walk_round names c.requires.homes c.requires.others c.requires.below (get nat_cmp c.loop-parent.above) (contains nat_cmp c.loop-parent.passed) from c.loop-parent.directory c.loop-parent.invariant again in
    record { row = x; there = there names c.loop-at.at x here; wrong = λ (hung : IsHung names x). let hangs : Hangs names from = rw home at (hung live) in never hangs }

pub loop-at-preserved : goal.loop-at-preserved
loop-at-preserved c =
    let names = c.args.names.now in
    let x = c.index-names-at.result in
    let from = c.row.inside.0.0.0 in
    let home : x.directory ≡ from = grind (arith, c.row.view_is) in
    let here : IsAt names c.loop-at.at x = record { within = omega arith; is = c.index-names-at.is } in
    let end : get nat_cmp c.loop-parent.above c.loop-parent.directory ≡ None = grind (arith, c.remove.ensures.value, c.in_default.is) in
    let fresh : contains nat_cmp c.loop-parent.passed c.loop-parent.directory ≡ false = grind (arith, c.contains.ensures, c.if-contains.false) in
    let after = walk_hangs names c.requires.homes c.requires.others c.requires.below (get nat_cmp c.loop-parent.above) (contains nat_cmp c.loop-parent.passed) from c.loop-parent.directory c.loop-parent.invariant (get nat_cmp c.remove.new.self) end (λ q. grind (arith, nat_tests, c.remove.ensures.updates.0 q)) fresh in
    let hangs : Hangs names x.directory = rw home after.1 in
    record { left = after.0; hung = rw (taken names c.loop-at.at x here) (all-push (IsHung names) (take c.loop-at.at names) x c.loop-at.invariant.hung (λ live. hangs)) }
