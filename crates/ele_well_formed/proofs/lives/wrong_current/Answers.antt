use Rattle.ele_well_formed.proofs.Words.{AllByRecursion, HasCurrent}
use Rattle.ele_well_formed.proofs.Currents.{have_current, if_none}
use Rattle.ele_well_formed.proofs.lives.wrong_current.Goals as goal

pub returns-clause-none : goal.returns-clause-none
returns-clause-none c =
    let w = c.args.flat.now in
    if_none c.first_wrong.result (λ (all : AllByRecursion (HasCurrent w) c.as_slice-2.result.now). have_current w c.requires.held.named.names (rw c.as_slice-2.ensures at all)) c.first_wrong.ensures.none
