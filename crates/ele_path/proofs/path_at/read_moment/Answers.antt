use Rattle.std.proofs.Common.{ℕ, ◌∷◌, ◌∙◌, ap}
use Rattle.ele_path.proofs.Tags.{at_fault}
use Rattle.ele_path.proofs.PathsAt.{moment_only}
use Rattle.ele_path.proofs.path_at.read_moment.Goals as goal

pub returns-in-Ok-clause-only : goal.returns-in-Ok-clause-only
returns-in-Ok-clause-only c =
    let rest = c.in-Some-eq64-default.moment.now in
    moment_only c.args.text.now rest c.in-Ok.moment (c.in-Some-eq64-default.ensures.cases.0 ∙ ap (λ (b : ℕ). b ∷ rest) c.in-Some-eq64-default.field-0-0-test) c.in-Ok.ensures.only

pub returns-in-Err-clause-fault : goal.returns-in-Err-clause-fault
returns-in-Err-clause-fault c =
    let rest = c.in-Some-eq64-default.moment.now in
    let is = c.in-Some-eq64-default.ensures.cases.0 ∙ ap (λ (b : ℕ). b ∷ rest) c.in-Some-eq64-default.field-0-0-test in
    (rest, is, at_fault c.args.text.now rest _ is c.in-Err.ensures.only)
