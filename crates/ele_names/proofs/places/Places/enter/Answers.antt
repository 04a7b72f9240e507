use Rattle.ele_names.proofs.Lemmas.{refl, arith, births_insert}
use Rattle.ele_names.proofs.Indexed.{births_undo}
use Rattle.ele_names.proofs.Words.{nat_tests}
use Rattle.ele_names.proofs.places.Places.enter.Goals as goal

pub returns-clause-ok : goal.returns-clause-ok
returns-clause-ok c = λ names at its fresh placed. record {
  named = rw c.enter_target.ensures.named (births_insert c.args.serial c.args.self.now.by_name c.insert.new.self c.args.row.now placed.named (fresh c.args.serial (omega arith)) c.insert.ensures.below (rw (c.birth_of-birth.ensures.value, ← its) at c.in_ok-insert.ensures.ok));
  chained = c.in_default.ensures.ok at c.args.row.now refl fresh placed.chained;
}

pub returns-in-Err-clause-err : goal.returns-in-Err-clause-err
returns-in-Err-clause-err c = grind (arith, nat_tests, births_undo)
