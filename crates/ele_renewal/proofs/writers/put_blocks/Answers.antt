use Rattle.std.proofs.lemmas.Option.{slice_get-get_or}
use Rattle.ele_renewal.proofs.Firsts.{all_blocks, blocks_more}
use Rattle.ele_renewal.proofs.Words.{Some, arith, get_or, slice_get, ◌≡◌}
use Rattle.ele_renewal.proofs.writers.put_blocks.Goals as goal

pub loop-slot-preserved : goal.loop-slot-preserved
loop-slot-preserved c =
    let cells = c.args.cells.now in
    let cell = get_or cells c.loop-slot.slot c.index-cells-slot.result in
    let found : slice_get cells c.loop-slot.slot ≡ Some cell = slice_get-get_or cells c.loop-slot.slot c.index-cells-slot.result (omega arith) in
    blocks_more c.args.file c.loop-slot.slot cells cell found c.args.known.now c.loop-slot.known c.put_block.new.known c.args.number c.loop-slot.invariant c.in_ok-put_block.ensures

pub returns : goal.returns
returns c = λ other at writer. rw (← all_blocks c.args.cells.now c.loop-slot.slot (omega arith) at writer) (c.loop-slot.invariant other at writer)
