use Rattle.ele_files.proofs.Lemmas.{Meets, cell_of, map, places_from, slots_of, take, ℕ}
use Rattle.ele_files.proofs.files.usage.meet.Given as goal

abbrev pub invariant-loop-slot : goal.invariant-loop-slot
invariant-loop-slot l = (file : ℕ) → Meets file l.fn.met.keys l.met.keys (places_from file 0 (map (cell_of l.store) (take l.slot (slots_of l.store l.map))))
