use Rattle.ele_names.proofs.Lemmas.{ap, arith, nat_tests, ◌∙◌, is_of, is_target_file, live_same, chained_entered, chained_told}
use Rattle.ele_names.proofs.places.Places.enter_target.Goals as goal

pub returns-in_err-reserve-in-Directory-clause-same : goal.returns-in_err-reserve-in-Directory-clause-same
returns-in_err-reserve-in-Directory-clause-same c = grind (arith, nat_tests, live_same, c.reserve.ensures.same)

pub returns-in_ok-enter-in-File-clause-ok : goal.returns-in_ok-enter-in-File-clause-ok
returns-in_ok-enter-in-File-clause-ok c = λ at row its fresh was.
    chained_told is_of _ _ _ c.add.ensures.newest c.add.ensures.older
    (chained_entered is_of at c.args.serial fresh row c.in-File.file (λ g. ap (is_target_file g) (its ∙ c.in-File.is)) _ _ c.ranges.serial.fits (rw c.file.view_is at c.in_ok-enter-in-File.ensures.ok) was)
