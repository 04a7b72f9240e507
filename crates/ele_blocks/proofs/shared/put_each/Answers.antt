use Rattle.ele_blocks.proofs.Lemmas.{ap, arith, length, puts_more}
use Rattle.ele_blocks.proofs.shared.put_each.Goals as goal

pub loop-value-preserved : goal.loop-value-preserved
loop-value-preserved g c =
    let step = c.in-Some.ensures.steps in
    let size = ap length step.0 in
    let was = rw step.0 at c.loop-value.invariant.puts in
    record {
      puts = rw c.push_reserved.ensures.items (puts_more _ _ _ _ _ _ _ _ was c.put_reserved.ensures.vacant c.put_reserved.ensures.sets);
      left = omega (arith, step, size);
      room = c.put_reserved.ensures.room _ (omega (arith, step));
      numbers = omega (arith, c.put_reserved.ensures.capacity, c.loop-value.invariant.numbers);
      room_ids = omega (arith, step);
    }
