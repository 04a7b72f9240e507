use Rattle.ele_names.proofs.Lemmas.{refl, births_remove}
use Rattle.ele_names.proofs.places.Places.leave.Goals as goal

pub returns-then-is_none-clause-placed : goal.returns-then-is_none-clause-placed
returns-then-is_none-clause-placed c = λ names at its there newest placed. record {
  named = rw (c.end.ensures.named, c.leave_file.ensures.named) (births_remove c.args.serial c.args.self.now.by_name c.remove.new.self c.args.row.now placed.named there c.remove.ensures.below (rw (c.birth_of.ensures.value, ← its) at c.remove.ensures.removed));
  chained = c.end.ensures.chained _ (c.leave_file.ensures.chained at c.args.row.now refl there newest placed.chained);
}

pub returns-else-is_none-clause-placed : goal.returns-else-is_none-clause-placed
returns-else-is_none-clause-placed c = λ names at its there newest placed. record {
  named = rw c.leave_file.ensures.named (births_remove c.args.serial c.args.self.now.by_name c.remove.new.self c.args.row.now placed.named there c.remove.ensures.below (rw (c.birth_of.ensures.value, ← its) at c.remove.ensures.removed));
  chained = c.leave_file.ensures.chained at c.args.row.now refl there newest placed.chained;
}
