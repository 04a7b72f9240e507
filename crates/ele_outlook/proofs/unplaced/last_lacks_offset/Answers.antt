use Rattle.std.proofs.Common.{◌<◌, ◌∙◌, length, arith}
use Rattle.std.proofs.lemmas.Bool.Decides.{nat_tests}
use Rattle.ele_outlook.specs.Unplaced.{line_lacks_offset}
use Rattle.ele_outlook.proofs.Passed.{alone}
use Rattle.ele_outlook.proofs.unplaced.last_lacks_offset.Goals as goal

pub returns : goal.returns
returns c =
    let some : 0 < length c.args.rest.now = grind (arith, nat_tests) in
    c.line_lacks_offset.ensures ∙ alone (line_lacks_offset c.args.form) c.args.rest.now c.requires some
