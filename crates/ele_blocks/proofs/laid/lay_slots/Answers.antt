use Rattle.ele_blocks.proofs.Lemmas.{arith, laid_more, length-map, length-take-le, map-append, slot_by, take, take_more}
use Rattle.ele_blocks.proofs.laid.lay_slots.Goals as goal

pub loop-i-preserved : goal.loop-i-preserved
loop-i-preserved c = grind (arith, length-map (take c.loop-i.i c.args.ids.now) (slot_by c.args.writer), length-take-le c.loop-i.i c.args.ids.now, take_more c.args.ids.now c.loop-i.i 0, map-append (slot_by c.args.writer), laid_more)
