use Rattle.ele_names.proofs.Lemmas.{◌≡◌, ◌-◌, length, take, true, sym, arith, nat_tests, beside, bytes_eq-Decides, slice_eq-Decides}
use Rattle.ele_names.proofs.walk.parent_beside.Goals as goal

pub returns-in-Some : goal.returns-in-Some
returns-in-Some c =
    let same : take (length c.args.path.now - 1) c.args.path.now ≡ take (length c.args.other.now - 1) c.args.other.now = grind (arith, nat_tests, c.parents.ensures, c.parents-2.ensures, c.eq-beside.ensures, slice_eq-Decides bytes_eq-Decides c.parents.result c.parents-2.result true) in
    sym (beside c.args.names.now c.args.path.now c.args.other.now c.args.known.now c.in-Some.name c.requires (grind (arith, nat_tests, c.in-Some.ensures)) same)
