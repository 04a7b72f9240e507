use Rattle.ele_model.proofs.Basics.{◌≡◌, ◌+◌, ◌≤◌, drop}
use Rattle.ele_model.proofs.Words.{new_places, places, places_from}
use Rattle.ele_model.proofs.sums.new_slots.Given as goal

abbrev pub invariant-loop-slot : goal.invariant-loop-slot
invariant-loop-slot l = record {
  within : l.count ≤ l.slot;
  all : l.count + new_places (places l.versions l.drafts) (places_from l.file l.slot (drop l.slot l.cells)) ≡ new_places (places l.versions l.drafts) (places_from l.file 0 l.cells);
}
