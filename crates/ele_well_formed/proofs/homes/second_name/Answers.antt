use Rattle.ele_well_formed.proofs.Words.{None, Some, arith, false, is_live_directory, list_any, live_directory, nat_tests, take, true, ◌≡◌}
use Rattle.ele_well_formed.proofs.Rows.{IsAt, any_more}
use Rattle.ele_well_formed.proofs.NumberSets.{live_more, live_same, others_more, others_none, others_wrong}
use Rattle.ele_well_formed.proofs.homes.second_name.Goals as goal
use Rattle.ele_well_formed.proofs.homes.second_name.Goals.{in-Some+in_ok-insert+else-not-branch, in_default}

pub returns-then-not-branch-clause-some : goal.returns-then-not-branch-clause-some
returns-then-not-branch-clause-some c =
    let xs = c.args.names.now in
    let x = c.index-names-at.result in
    let here : IsAt xs c.loop-at.at x = record { within = omega arith; is = c.index-names-at.is } in
    let any : list_any (is_live_directory c.in-Some.id) (take c.loop-at.at xs) ≡ true = grind (arith, nat_tests, c.in_ok-insert.ensures.added, c.if-not-branch.true, c.loop-at.invariant.seen c.in-Some.id) in
    others_wrong xs c.loop-at.at x here c.in-Some.id (grind (arith, c.live_directory_of.ensures, c.in-Some.is)) any

pub loop-at-preserved : goal.loop-at-preserved
loop-at-preserved c =
    let xs = c.args.names.now in
    let at = c.loop-at.at in
    let x = c.index-names-at.result in
    let here : IsAt xs at x = record { within = omega arith; is = c.index-names-at.is } in
    elim c.match-live_directory_of.branch [
      | in-Some+in_ok-insert+else-not-branch w ↦
          let live : live_directory x ≡ Some w.in-Some.id = grind (arith, c.live_directory_of.ensures, w.in-Some.is) in
          let none : list_any (is_live_directory w.in-Some.id) (take at xs) ≡ false = grind (arith, nat_tests, w.in_ok-insert.ensures.added, w.if-not-branch.false, c.loop-at.invariant.seen w.in-Some.id) in
          record { seen = λ q. grind (arith, nat_tests, w.seen-is, w.in_ok-insert.ensures.updates.0 q, c.loop-at.invariant.seen q, any_more (is_live_directory q) xs at x here, live_more xs at x here w.in-Some.id q live); others = others_more xs at x here w.in-Some.id live none c.loop-at.invariant.others }
      | in_default w ↦
          let live : live_directory x ≡ None = grind (arith, c.live_directory_of.ensures, w.in_default) in
          record { seen = λ q. grind (arith, nat_tests, w.seen-is, c.loop-at.invariant.seen q, any_more (is_live_directory q) xs at x here, live_same xs at x here q live); others = others_none xs at x here live c.loop-at.invariant.others }
    ]
