use Rattle.ele_well_formed.proofs.Words.{None, Some, arith, live_directory, nat_tests, ◌≡◌}
use Rattle.ele_well_formed.proofs.Rows.{IsAt}
use Rattle.ele_well_formed.proofs.Climbs.{parent_more, parent_same}
use Rattle.ele_well_formed.proofs.tree.parents.Goals as goal
use Rattle.ele_well_formed.proofs.tree.parents.Goals.{in-Some+in_ok-_older, in_default}

pub loop-row-preserved : goal.loop-row-preserved
loop-row-preserved c =
    let xs = c.args.names.now in
    let at = c.loop-row.row-index in
    let x = c.row-item.result in
    let here : IsAt xs at x = record { within = omega arith; is = c.row-item.is } in
    elim c.match-live_directory_of.branch [
      | in-Some+in_ok-_older w ↦
          let live : live_directory x ≡ Some w.in-Some.id = grind (arith, c.live_directory_of.ensures, w.in-Some.is) in
          λ q. grind (arith, nat_tests, w.above-is, w.in_ok-_older.ensures.updates.0 q, c.loop-row.invariant q, parent_more xs at x here w.in-Some.id q live)
      | in_default w ↦
          let live : live_directory x ≡ None = grind (arith, c.live_directory_of.ensures, w.in_default) in
          λ q. grind (arith, nat_tests, w.above-is, c.loop-row.invariant q, parent_same xs at x here q live)
    ]
