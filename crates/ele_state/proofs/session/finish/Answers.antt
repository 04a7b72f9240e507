use Rattle.ele_state.proofs.Words.{arith, nat_tests, world_of}
use Rattle.ele_state.proofs.ClosedSteps.{file_there, finished_step}
use Rattle.ele_state.proofs.Grown.{grown_tracked, none_new, ready, roomy}
use Rattle.ele_state.proofs.session.finish.Goals as goal
use Rattle.ele_state.specs.Source.{Draft}

pub head-head-requires : goal.head-head-requires
head-head-requires c = file_there (world_of c.args.rows.now) c.args.handle.now.row.number c.args.file c.requires.reads c.args.opened c.requires.changed c.requires.sound.formed

pub append-requires-clause-absent : goal.append-requires-clause-absent
append-requires-clause-absent c = none_new c.args.rows.now c.args.file c.requires.sound (file_there (world_of c.args.rows.now) c.args.handle.now.row.number c.args.file c.requires.reads c.args.opened c.requires.changed c.requires.sound.formed) c.head-head.result.policy c.head-head.ensures.policy

pub append-requires-clause-roomy : goal.append-requires-clause-roomy
append-requires-clause-roomy c = roomy c.args.rows.now c.requires.sound

pub append-requires-clause-ready : goal.append-requires-clause-ready
append-requires-clause-ready c = ready c.args.rows.now c.args.file (Draft c.args.handle.now c.args.opened) c.requires.sound (record { stands = c.requires.stands; reads = c.requires.reads; changed = c.requires.changed })

pub returns-clause-tracked : goal.returns-clause-tracked
returns-clause-tracked c = grown_tracked c.args.rows.now c.args.file c.requires.sound (file_there (world_of c.args.rows.now) c.args.handle.now.row.number c.args.file c.requires.reads c.args.opened c.requires.changed c.requires.sound.formed) c.head-head.result.policy c.head-head.ensures.policy (Draft c.args.handle.now c.args.opened) (record { stands = c.requires.stands; reads = c.requires.reads; changed = c.requires.changed }) c.append.new.rows c.append.result c.append.ensures.ok c.append.ensures.err c.append.ensures.come c.append.ensures.same c.append.ensures.book c.append.ensures.limits

pub returns-clause-step : goal.returns-clause-step
returns-clause-step c = grind (arith, nat_tests, finished_step (world_of c.args.rows.now) c.args.handle.now.row.number c.args.file c.requires.reads c.args.opened c.requires.changed)
