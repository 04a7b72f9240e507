use Rattle.ele_names.proofs.Lemmas.{arith, nat_tests, is_of, is_target_file, chained_left, newest_known}
use Rattle.ele_names.proofs.places.Places.leave_file.Goals as goal

pub returns-in-File-clause-chained : goal.returns-in-File-clause-chained
returns-in-File-clause-chained c = λ at row its there newest was.
    let file = c.in-File.file in
    let old = c.args.self.now.of_file in
    chained_left is_of at row c.args.serial there file (λ g. grind (arith, nat_tests, is_target_file)) (λ s over. newest file s (grind (arith, nat_tests, is_target_file)) over) old _ c.ranges.serial.fits
    ((rw c.file.view_is at c.leave.ensures.lost) (newest_known is_of at row c.args.serial there file (grind (arith, nat_tests, is_target_file)) old c.ranges.serial.fits was)) was
