use Rattle.std.proofs.Common.{rules}
use Rattle.ele_model.proofs.RefusalDetails.{none_follow}
use Rattle.ele_model.proofs.refusal.RefusalDisplay.fmt.Goals as goal

pub returns-in_default : goal.returns-in_default
returns-in_default g c =
    let none = none_follow c.args.self.now c.in_default.not-Forgotten c.in_default.not-Full in
    record { writes = search (rules, none); styled = _ }
