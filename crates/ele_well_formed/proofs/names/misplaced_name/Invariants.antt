use Rattle.ele_well_formed.proofs.Words.{AllLater, AreApart, take, ◌≡◌}
use Rattle.ele_model.specs.Restorable.{newest_rows}
use Rattle.ele_well_formed.proofs.names.misplaced_name.Given as goal

abbrev pub invariant-loop-at : goal.invariant-loop-at
invariant-loop-at l = record {
  newest : l.newest.entries ≡ newest_rows (take l.at l.rows);
  apart : AllLater AreApart (take l.at l.rows);
}
