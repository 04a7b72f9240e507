use Rattle.std.proofs.Common.{None, ◌-◌, length}
use Rattle.std.specs.Prelude.{slice_get}
use Rattle.ele_checkpoint.specs.PartsRead.{each_version_at}
use Rattle.ele_checkpoint.proofs.Loops.{versions_go_on, versions_end, versions_done, last_pushed}
use Rattle.ele_checkpoint.proofs.version.each_version_of.Goals as goal

pub returns-in-Err : goal.returns-in-Err
returns-in-Err c = versions_end (slice_get c.loop.rows.items (length c.loop.rows.items - 1)) c.in-Err.stop c.loop.rows.items c.args.count c.loop.counter c.loop.rest.now (each_version_at None c.args.count c.args.bytes.now) c.loop-test.true (let e = rw c.deref.ensures.value at c.last.ensures.value in rw (← e) c.in-Err.ensures) c.loop.invariant

pub loop-preserved : goal.loop-preserved
loop-preserved c = rw (c.in_ok-push.ensures.items, last_pushed c.loop.rows.items c.in-Ok.found.0) (versions_go_on (slice_get c.loop.rows.items (length c.loop.rows.items - 1)) c.loop.rows.items c.args.count c.loop.counter c.loop.rest.now c.in-Ok.found.0 c.in-Ok.found.1.now (each_version_at None c.args.count c.args.bytes.now) c.loop-test.true (let e = rw c.deref.ensures.value at c.last.ensures.value in rw (← e) c.in-Ok.ensures) c.loop.invariant)

pub returns : goal.returns
returns c = versions_done (slice_get c.loop.rows.items (length c.loop.rows.items - 1)) c.loop.rows.items c.args.count c.loop.counter c.loop.rest.now (each_version_at None c.args.count c.args.bytes.now) c.loop-test.false c.loop.invariant
