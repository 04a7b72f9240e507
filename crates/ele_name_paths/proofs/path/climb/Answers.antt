use Rattle.ele_name_paths.proofs.Basics.{arith, length, ◌∙◌, ◌-◌, ◌+◌, sym}
use Rattle.ele_name_paths.proofs.Paths.{climbs_end, climbs_more}
use Rattle.ele_name_paths.proofs.path.climb.Goals as goal

pub returns-in_default : goal.returns-in_default
returns-in_default c =
    rw c.is_root.ensures (climbs_end c.args.above c.args.rows.now c.args.target c.loop.at (length c.args.rows.now - c.loop.counter) c.loop.names.items (sym c.name_above.ensures ∙ c.in_default.is) c.loop.invariant)

pub loop-preserved : goal.loop-preserved
loop-preserved c =
    climbs_more c.args.above c.args.rows.now c.args.target c.loop.at (length c.args.rows.now - c.loop.counter) (length c.args.rows.now - (c.loop.counter + 1)) c.in-Some.row c.loop.names.items c.push.new.self.items
    (omega (arith, c.loop-test.true)) (sym c.name_above.ensures ∙ c.in-Some.is) c.in_ok-push.ensures.items c.loop.invariant
