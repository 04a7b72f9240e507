use Rattle.ele_well_formed.proofs.Words.{arith, false, true, ◌≡◌}
use Rattle.ele_well_formed.proofs.Rows.{IsAt, there}
use Rattle.ele_well_formed.proofs.KnownBytes.{cell_differs, puts_all, puts_more}
use Rattle.ele_well_formed.proofs.blocks.put_cells.Goals as goal

pub returns-then-not-branch-clause-differ : goal.returns-then-not-branch-clause-differ
returns-then-not-branch-clause-differ c =
    let cells = c.args.cells.now in
    let cell = c.index-cells-slot.result in
    let here : IsAt cells c.loop-slot.slot cell = record { within = omega arith; is = c.index-cells-slot.is } in
    let no : c.in_ok-put_cell.field-0 ≡ false = grind (arith, c.if-not-branch.true) in
    cell_differs c.args.file cells c.loop-slot.slot cell (there cells c.loop-slot.slot cell here) c.args.known.now c.loop-slot.known c.loop-slot.invariant (rw (no, c.as_slice.ensures, c.writer_of.ensures) at c.in_ok-put_cell.ensures.differ)

pub loop-slot-preserved : goal.loop-slot-preserved
loop-slot-preserved c =
    let cells = c.args.cells.now in
    let cell = c.index-cells-slot.result in
    let here : IsAt cells c.loop-slot.slot cell = record { within = omega arith; is = c.index-cells-slot.is } in
    let yes : c.in_ok-put_cell.field-0 ≡ true = grind (arith, c.if-not-branch.false) in
    puts_more c.args.file cells c.loop-slot.slot cell (there cells c.loop-slot.slot cell here) c.args.known.now c.loop-slot.known c.loop-slot.invariant c.put_cell.new.known (rw (yes, c.as_slice.ensures, c.writer_of.ensures) at c.in_ok-put_cell.ensures.same)

pub returns-clause-same : goal.returns-clause-same
returns-clause-same c = puts_all c.args.known.now c.loop-slot.known c.args.file c.args.cells.now c.loop-slot.slot (omega arith) c.loop-slot.invariant
