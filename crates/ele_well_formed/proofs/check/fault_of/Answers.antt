use Rattle.std.specs.Prelude.{IfSome, MatchOption}
use Rattle.std.proofs.lemmas.Result.{IfOk-weaker}
use Rattle.ele_model.specs.Start.{IsStart}
use Rattle.ele_well_formed.specs.Fault.{HasFault}
use Rattle.ele_well_formed.proofs.NoStart.{if_some, no_start}
use Rattle.ele_well_formed.proofs.check.fault_of.Goals as goal

pub returns-in-Some-clause-no_run : goal.returns-in-Some-clause-no_run
returns-in-Some-clause-no_run c = no_start c.args.flat.now c.in-Some.fault c.in-Some.ensures

pub returns-clause-no_run : goal.returns-clause-no_run
returns-clause-no_run c =
    let w = c.args.flat.now in
    IfOk-weaker c.later_fault.result (λ found. MatchOption found (IsStart w) (HasFault w)) (λ found. IfSome found (λ _. IsStart w → ⊥)) (λ found has. if_some w found has) c.later_fault.ensures
