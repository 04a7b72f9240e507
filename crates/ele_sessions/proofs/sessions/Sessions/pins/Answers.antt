use Rattle.ele_sessions.proofs.Basics.{arith}
use Rattle.ele_sessions.proofs.Counts.{any-reader}
use Rattle.ele_model.specs.declared.rows.Reads.TheVariants.{Version}
use Rattle.ele_sessions.proofs.sessions.Sessions.pins.Goals as goal

pub returns : goal.returns
returns c = grind (arith, c.self.view_is, c.count.ensures, c.self.invariant.counted (Version c.args.file c.args.number), any-reader c.args.file c.args.number c.self.inside.handles.items)
