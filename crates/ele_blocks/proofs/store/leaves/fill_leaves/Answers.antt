use Rattle.ele_blocks.proofs.Lemmas.{[], ap, arith, backing_put, chunk_next, into_iter_len, length, length-append, length-drop, puts_more, ◌∙◌, ◌∷◌}
use Rattle.ele_blocks.proofs.store.leaves.fill_leaves.Goals as goal

pub loop-room-preserved : goal.loop-room-preserved
loop-room-preserved c =
    let h = c.loop-room.invariant in
    let step = c.in-Some.ensures.steps in
    let size = ap length step.0 in
    let left = into_iter_len c.next.new.self in
    let sets = rw c.fill.ensures at c.put_reserved.ensures.sets in
    let front = c.split_at.result.0.now in
    let back = c.split_at.result.1.now in
    let next = chunk_next 16 (into_iter_len c.loop-room.room-iterator) left c.min.result c.loop-room.rest.now front back (omega (arith, step)) (omega arith) c.split_at.ensures.front c.split_at.ensures.back in
    record {
      puts = rw c.push_reserved.ensures.items (puts_more c.args.leaves.now.slots c.loop-room.leaves.slots c.put_reserved.new.self.slots c.loop-room.ids.items front _ _ c.put_reserved.result (rw next at h.puts) c.put_reserved.ensures.vacant sets);
      left = omega (arith, step, h.left, ap length c.split_at.ensures.back, length-drop c.min.result c.loop-room.rest.now, c.min.ensures);
      size = omega (arith, step, size, h.size);
      room = c.put_reserved.ensures.room left (omega (arith, step, h.room));
      numbers = omega (arith, c.put_reserved.ensures.capacity, h.numbers);
      room_ids = omega (arith, step, h.room_ids, ap length c.push_reserved.ensures.items, length-append c.loop-room.ids.items (c.put_reserved.result ∷ []), c.push_reserved.ensures.capacity);
      backing = λ id. backing_put c.loop-room.leaves.slots c.put_reserved.new.self.slots c.loop-room.rest.now front back c.min.result c.put_reserved.result c.split_at.ensures.front c.split_at.ensures.back c.put_reserved.ensures.vacant sets id ∙ h.backing id;
    }
