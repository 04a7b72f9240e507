use Rattle.std.proofs.Common.{◌<◌, [], length, refl, arith}
use Rattle.std.proofs.lemmas.Bool.Decides.{nat_tests}
use Rattle.std.proofs.lemmas.Result.{err_from_is_err_and}
use Rattle.ele_outlook.proofs.Lines.{only_line, read_all, read_bad, read_more}
use Rattle.ele_outlook.proofs.input.add_last.Goals as goal

pub returns-in_err-add_line : goal.returns-in_err-add_line
returns-in_err-add_line c =
    λ input far.
    let some : 0 < length c.args.rest.now = grind (arith, nat_tests) in
    let p = err_from_is_err_and c.from_residual.result c.from_residual.ensures.1 in
    rw (p.1, p.2) (read_bad c.args.rest.now [] _ far (only_line c.args.rest.now c.requires some) c.in_err-add_line.ensures)

pub returns : goal.returns
returns c =
    λ input far.
    let some : 0 < length c.args.rest.now = grind (arith, nat_tests) in
    read_all (read_more c.args.rest.now [] far (only_line c.args.rest.now c.requires some) c.in_ok-add_line.ensures) refl c.lemma_sorted-2.ensures.rises
