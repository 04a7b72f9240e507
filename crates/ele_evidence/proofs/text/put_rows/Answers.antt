use Rattle.ele_evidence.proofs.Basics.{List, arith, subst, sym, ℕ}
use Rattle.ele_evidence.proofs.Texts.{rowed_all, rowed_more, rowed_none}
use Rattle.ele_evidence.specs.EvidenceText.{IsRow}
use Rattle.ele_output.specs.Prints.{outlet}
use Rattle.ele_evidence.proofs.text.put_rows.Goals as goal

pub loop-entry-init : goal.loop-entry-init
loop-entry-init g c = rowed_none (outlet g.W.Write.contents c.args.printer.now) c.args.above c.args.entries.now

pub loop-entry-preserved : goal.loop-entry-preserved
loop-entry-preserved g c =
    rowed_more c.args.entries.now c.loop-entry.entry-index c.entry-item.result c.as_slice.result.now (omega arith) c.entry-item.is
    (subst (λ (row : List ℕ). IsRow c.entry-item.result row) (sym c.as_slice.ensures.value) c.in_ok-row.ensures) c.put_row-line.ensures.line c.loop-entry.invariant c.put_row-line.ensures.printed

pub returns : goal.returns
returns g c = rowed_all c.args.entries.now c.loop-entry.entry-index c.loop-entry-test.false c.loop-entry.invariant
