use Rattle.ele_audit.proofs.Basics.{arith, sym, ◌∙◌, ap}
use Rattle.ele_audit.proofs.Gathers.{seeks_begin, seeks_found, seeks_more, seeks_none}
use Rattle.ele_model.specs.World.{World}
use Rattle.ele_audit.proofs.listing.opened_at.Goals as goal

pub loop-entry-init : goal.loop-entry-init
loop-entry-init g c =
    seeks_begin c.args.handle c.args.history.now.base c.entries-entries.result.now c.base.result.now.now (ap (λ (w : World). w.now) c.base.ensures.value) (rw c.entries-entries.ensures.value c.entries-entries.ensures.legal)

pub loop-entry-preserved : goal.loop-entry-preserved
loop-entry-preserved g c =
    rw c.clock_after-clock.ensures (seeks_more c.args.handle c.args.history.now.base c.entries-entries.result.now c.loop-entry.entry-index c.loop-entry.clock c.entry-item.result (omega arith) c.entry-item.is (sym c.opens.ensures ∙ c.if-opens.false) c.loop-entry.invariant)

pub returns-then-opens : goal.returns-then-opens
returns-then-opens g c =
    rw (sym c.entries-entries.ensures.value) (sym (seeks_found c.args.handle c.args.history.now.base c.entries-entries.result.now c.loop-entry.entry-index c.loop-entry.clock c.entry-item.result (omega arith) c.entry-item.is (sym c.opens.ensures ∙ c.if-opens.true) c.loop-entry.invariant))

pub returns : goal.returns
returns g c = rw (sym c.entries-entries.ensures.value) (sym (seeks_none c.args.handle c.args.history.now.base c.entries-entries.result.now c.loop-entry.entry-index c.loop-entry.clock c.loop-entry-test.false c.loop-entry.invariant))
