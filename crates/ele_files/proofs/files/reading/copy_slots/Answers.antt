use Rattle.ele_files.proofs.Words.{arith, content_of, shown}
use Rattle.ele_files.proofs.Reading.{block_bytes, block_size, copied_next}
use Rattle.ele_files.proofs.files.reading.copy_slots.Goals as goal
use Rattle.std.proofs.Common.{◌≡◌, ◌+◌, ◌-◌, ◌*◌, ◌∙◌, ◌≤◌, length}
use Rattle.std.proofs.lemmas.Grind.{elements}

pub unreachable-requires : goal.unreachable-requires
unreachable-requires c = grind (arith, elements)

pub put_rest-done-requires-clause-skip : goal.put_rest-done-requires-clause-skip
put_rest-done-requires-clause-skip c =
    let size = block_size c.requires.laws c.args.store.now c.args.map.now c.requires.lives c.loop-slot.slot c.in-Some.cell c.in-Some.ensures.cell c.get.result.now c.get.ensures in
    omega (arith, size, c.loop-slot.invariant.count, c.loop-slot-test.true, c.loop-slot.auto.slot, c.min-past.ensures, c.div_ceil.ensures, c.saturating_add.ensures, c.slots.ensures, c.requires.within)

pub loop-slot-preserved : goal.loop-slot-preserved
loop-slot-preserved c =
    let size = block_size c.requires.laws c.args.store.now c.args.map.now c.requires.lives c.loop-slot.slot c.in-Some.cell c.in-Some.ensures.cell c.get.result.now c.get.ensures in
    let bytes = block_bytes c.requires.laws c.args.store.now c.args.map.now c.requires.lives c.loop-slot.slot c.in-Some.cell c.in-Some.ensures.cell c.get.result.now c.get.ensures in
    let content = content_of (shown c.args.store.now c.args.map.now) in
    let skip = c.args.offset + c.loop-slot.done - 512 * c.loop-slot.slot in
    let far : c.loop-slot.done ≤ length content - c.args.offset = omega (arith, c.loop-slot.invariant.count, c.requires.laws.long c.args.store.now c.args.map.now c.requires.lives) in
    let place : 512 * c.loop-slot.slot + skip ≡ c.args.offset + c.loop-slot.done = omega (arith, c.loop-slot.invariant.count, c.loop-slot-test.true, c.loop-slot.auto.slot, c.min-past.ensures, c.div_ceil.ensures, c.saturating_add.ensures, c.slots.ensures, c.requires.within) in
    record {
      count = omega (arith, size, c.put_rest-done.ensures.count, c.loop-slot.auto.into, c.loop-slot.invariant.count, c.loop-slot-test.true, c.loop-slot.auto.slot, c.min-past.ensures, c.div_ceil.ensures, c.saturating_add.ensures, c.slots.ensures, c.requires.within);
      bytes = c.put_rest-done.ensures.bytes ∙ copied_next content c.args.into.now c.args.offset c.loop-slot.done skip c.put_rest-done.result c.loop-slot.slot c.get.result.now c.loop-slot.into c.loop-slot.invariant.bytes bytes place (omega (arith, size, c.put_rest-done.ensures.count, place)) far;
    }
