use Rattle.ele_files.proofs.Lemmas.{Counts, arith, cell_of, map, met_next, places_next, places_from, slots_of, subst, sym, take, ◌++◌}
use Rattle.ele_files.proofs.files.usage.meet.Goals as goal

pub loop-slot-preserved : goal.loop-slot-preserved
loop-slot-preserved c = λ file before counts.
    let s = c.args.store.now in
    let m = c.args.map.now in
    let slot = c.loop-slot.slot in
    let count = c.requires.laws.slots s m c.requires.lives in
    let next = places_next c.requires.laws s m c.requires.lives slot c.in-Some.cell c.in-Some.ensures.cell (omega (arith, count, c.loop-slot-test.true, c.slots-slot-end.ensures)) file in
    let new = met_next file slot c.writer.inside.0 c.loop-slot.met.keys c.insert.new.self.keys c.in_ok-_new._new c.in_ok-_new.ensures.added c.in_ok-_new.ensures.len c.in_ok-_new.ensures.updates.0 before (places_from file 0 (map (cell_of s) (take slot (slots_of s m)))) (c.loop-slot.invariant file before counts) in
    subst (λ places. Counts file c.insert.new.self.keys (before ++ places)) (sym next) (rw c.writer.view_is at new)
