use Rattle.ele_rows.proofs.Words.{ap, arith, chunk_read, flat, flat-remove_empty, flat-taken, get_or-set_same, has_chunk, last_room-set, length, length-set, refl, set, slice_get_read, sym, ◌∙◌, ◌≡◌}
use Rattle.ele_rows.proofs.seam.take_out.Goals as goal

pub returns-then-is_empty-clause-rows : goal.returns-then-is_empty-clause-rows
returns-then-is_empty-clause-rows g c =
    let cs = c.args.chunks.now.items in
    let now = c.remove-row.new.self in
    let within = has_chunk cs c.args.chunk c.args.place c.requires.place in
    let here = chunk_read cs c.args.chunk c.args.place _ c.requires.place c.index_mut.ensures.value in
    let there = slice_get_read (set cs c.args.chunk now) (length cs) c.args.chunk now (sym (length-set cs c.args.chunk now)) within (sym (get_or-set_same cs c.args.chunk now now within)) in
    let shown : c.index.result.now ≡ now = c.index.ensures ∙ get_or-set_same cs c.args.chunk now c.index.result.now within in
    let empty = rw shown at (c.is_empty.ensures.0 c.if-is_empty.true) in
    ap flat c.remove.ensures.items ∙ flat-remove_empty _ c.args.chunk now there empty ∙ flat-taken cs c.args.chunk c.args.place _ now here c.remove-row.ensures.rows

pub returns-else-is_empty-clause-kept : goal.returns-else-is_empty-clause-kept
returns-else-is_empty-clause-kept g c =
    let here = chunk_read c.args.chunks.now.items c.args.chunk c.args.place c.index_mut.result.now c.requires.place c.index_mut.ensures.value in
    record { chunks = refl; room = last_room-set c.args.chunks.now.items c.args.chunk _ c.remove-row.new.self here (omega (arith, c.remove-row.ensures.room)) }
