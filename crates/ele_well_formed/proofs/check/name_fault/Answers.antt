use Rattle.ele_well_formed.proofs.Words.{IsLife, IsNameRow, all-weaker}
use Rattle.ele_well_formed.proofs.NameLives.{life_of}
use Rattle.ele_well_formed.proofs.check.name_fault.Goals as goal

pub wrong_name-requires : goal.wrong_name-requires
wrong_name-requires c = rw c.as_slice.ensures c.requires.files.placed

pub misplaced_name-requires : goal.misplaced_name-requires
misplaced_name-requires c =
    all-weaker (IsNameRow c.as_slice.result.now c.args.flat.now.now) IsLife c.as_slice-names.result.now (λ row fits. life_of c.as_slice.result.now c.args.flat.now.now row fits) c.in_default.ensures.none
