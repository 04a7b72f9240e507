use Rattle.ele_script.proofs.Basics.{err_from_is_err_and}
use Rattle.ele_script.proofs.Behind.{bad_tagged}
use Rattle.ele_script.proofs.word.tagged.Goals as goal

pub returns-in_err-read-clause-fault : goal.returns-in_err-read-clause-fault
returns-in_err-read-clause-fault c =
    let p = err_from_is_err_and c.from_residual.result c.from_residual.ensures.1 in
    rw (p.1, p.2) (bad_tagged c.args.word.now _ c.in_err-read.ensures.fault)
