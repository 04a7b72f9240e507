use Rattle.std.proofs.Common.{refl}
use Rattle.std.proofs.KnownBytes.{Keeps-refl}
use Rattle.std.proofs.lemmas.Result.{err_from_is_err_and}
use Rattle.ele_runs.proofs.script.run_to_exit.Goals as goal

pub returns-in_err-runner-clause-told : goal.returns-in_err-runner-clause-told
returns-in_err-runner-clause-told g c =
    let p = err_from_is_err_and c.from_residual.result c.from_residual.ensures.1 in
    rw (p.1, p.2) (Keeps-refl _, Keeps-refl _, refl)

pub returns-in_err-buffer-clause-told : goal.returns-in_err-buffer-clause-told
returns-in_err-buffer-clause-told g c =
    let p = err_from_is_err_and c.from_residual-in_err-buffer.result c.from_residual-in_err-buffer.ensures.1 in
    rw (p.1, p.2) (Keeps-refl _, Keeps-refl _, refl)

pub returns-clause-told : goal.returns-clause-told
returns-clause-told g c = (rw c.in_ok-runner.ensures at c.run_printed-ran.ensures).0

pub returns-clause-no_memory : goal.returns-clause-no_memory
returns-clause-no_memory g c = λ is. absurd (rw is at c.run_printed-ran.ensures).1
