use Rattle.ele_audit.proofs.Basics.{arith, sym, ◌∙◌, ap}
use Rattle.ele_audit.proofs.Sees.{sees_done, sees_more, sees_none}
use Rattle.ele_audit.specs.Removals.{removals}
use Rattle.ele_audit.proofs.seen.seen_before.Goals as goal

pub loop-entry-init : goal.loop-entry-init
loop-entry-init g c =
    sees_none c.args.path.now c.args.history.now.base (g.C.Step.world c.in_ok-core.core) c.entries-entries.result.now (c.in_ok-core.ensures ∙ c.base.ensures.value)

pub loop-entry-preserved : goal.loop-entry-preserved
loop-entry-preserved g c =
    sees_more c.args.path.now (removals c.args.history.now.base c.entries-entries.result.now) (g.C.Step.world c.loop-entry.core) (g.C.Step.world c.apply.new.self) c.entries-entries.result.now c.loop-entry.entry-index c.entry-item.result
    c.in_ok-here.here c.loop-entry.seen c.newer-seen.result (omega arith) c.entry-item.is (ap (λ answer. answer.1) c.in_ok-_reply.ensures.step) c.in_ok-here.ensures c.newer-seen.ensures c.loop-entry.invariant

pub returns : goal.returns
returns g c = rw (sym c.entries-entries.ensures.value) (sees_done c.args.path.now (removals c.args.history.now.base c.entries-entries.result.now) (g.C.Step.world c.loop-entry.core) c.entries-entries.result.now c.loop-entry.entry-index c.loop-entry.seen c.loop-entry-test.false c.loop-entry.invariant)

pub from_flat-requires : goal.from_flat-requires
from_flat-requires g c = rw c.base.ensures.value (c.start_stays.ensures.reached c.args.history.now.base c.base.ensures.reached.reached)
