use Rattle.ele_script.proofs.Basics.{err_from_is_err_and}
use Rattle.ele_script.proofs.Behind.{refused_policy}
use Rattle.ele_script.proofs.arguments.path_and_policy.Goals as goal

pub returns-in_err-second : goal.returns-in_err-second
returns-in_err-second c =
    let p = err_from_is_err_and c.from_residual-in_err-second.result c.from_residual-in_err-second.ensures.1 in
    rw (p.1, p.2) (refused_policy _ _ _ _ c.in_ok-first.ensures.found c.in_ok-first-2.ensures.kind c.in_err-second.ensures)
