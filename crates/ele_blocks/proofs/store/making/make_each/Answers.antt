use Rattle.ele_blocks.proofs.Words.{ap, arith, length, ◌^◌}
use Rattle.ele_blocks.proofs.Makings.{can_take_now, has_block, one_made}
use Rattle.ele_blocks.proofs.store.making.make_each.Goals as goal

pub take_block-block-requires-clause-ready : goal.take_block-block-requires-clause-ready
take_block-block-requires-clause-ready c =
    let h = c.loop-slot.invariant in
    let step = c.in-Some.ensures.steps in
    let ready = rw step.0 at h.ready in
    can_take_now _ _ c.loop-slot.made.items _ h.so_far.are.trades (omega (arith, h.few)) ready.0.block

pub loop-slot-preserved : goal.loop-slot-preserved
loop-slot-preserved c =
    let h = c.loop-slot.invariant in
    let step = c.in-Some.ensures.steps in
    let size = ap length step.0 in
    let was = rw step.0 at h.so_far in
    let ready = rw step.0 at h.ready in
    record {
      so_far = rw c.push_reserved.ensures.items (one_made _ _ _ _ _ _ _ _ was c.take_block-block.result c.take_block-block.ensures.takes (omega (arith, c.new-in-loop-slot.ensures)) (omega (arith, c.new.ensures)) (has_block _ (2 ^ 62) _ ready.0.block));
      ready = ready.1;
      left = omega (arith, step, size);
      few = omega (arith, step, h.few, c.push_reserved.ensures.len);
      room = c.take_block-block.ensures.room _ (omega (arith, step));
      numbers = omega (arith, c.take_block-block.ensures.capacity, h.numbers);
      room_made = omega (arith, step);
    }
