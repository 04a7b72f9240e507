use Rattle.ele_removals.proofs.Basics.{arith, sym, ◌∙◌}
use Rattle.ele_audit.proofs.Gathers.{replays_done, replays_more, replays_none}
use Rattle.ele_audit.specs.Removals.{removals}
use Rattle.ele_removals.specs.Removals.{IsTold}
use Rattle.ele_removals.proofs.replay.replayed.Goals as goal

pub loop-entry-init : goal.loop-entry-init
loop-entry-init g c = record {
  rows = replays_none IsTold c.args.history.now.base (g.C.Step.world c.in_ok-core.core) c.entries-entries.result.now c.new-rows.result.items c.new-rows.ensures.items
      (c.in_ok-core.ensures ∙ c.base.ensures.value);
  copy = tt;
}

pub loop-entry-preserved : goal.loop-entry-preserved
loop-entry-preserved g c = record {
  rows = replays_more IsTold (removals c.args.history.now.base c.entries-entries.result.now) (g.C.Step.world c.loop-entry.core) (g.C.Step.world c.advance.new.core) c.entries-entries.result.now c.loop-entry.entry-index c.entry-item.result
      c.loop-entry.rows.items c.in_ok-kept.ensures.rows.0 c.add_removal.new.rows.items (omega arith) c.entry-item.is c.in_ok-copy.ensures.world c.in_ok-kept.ensures.rows.1 c.in_ok-kept.ensures.rows.2 c.loop-entry.invariant.rows;
  copy = c.in_ok-copy.ensures.copy;
}

pub returns : goal.returns
returns g c = rw (sym c.entries-entries.ensures.value) (replays_done IsTold (removals c.args.history.now.base c.entries-entries.result.now) (g.C.Step.world c.loop-entry.core) c.entries-entries.result.now c.loop-entry.entry-index c.loop-entry.rows.items c.loop-entry-test.false c.loop-entry.invariant.rows)

pub from_flat-requires : goal.from_flat-requires
from_flat-requires g c = rw c.base.ensures.value (c.start_stays.ensures.reached c.args.history.now.base c.base.ensures.reached.reached)
