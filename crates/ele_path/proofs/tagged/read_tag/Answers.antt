use Rattle.std.proofs.Common.{ℕ, ◌∷◌, ◌∙◌, ap}
use Rattle.ele_path.proofs.Tags.{at_only, at_fault, number_fault}
use Rattle.ele_path.proofs.tagged.read_tag.Goals as goal

pub returns-in-Ok-clause-only : goal.returns-in-Ok-clause-only
returns-in-Ok-clause-only c =
    let rest = c.in-Some-eq64-default.moment.now in
    at_only c.args.text.now rest c.in-Ok.moment (c.in-Some-eq64-default.ensures.cases.0 ∙ ap (λ (b : ℕ). b ∷ rest) c.in-Some-eq64-default.field-0-0-test) c.in-Ok.ensures.only

pub returns-in-Err-clause-fault : goal.returns-in-Err-clause-fault
returns-in-Err-clause-fault c =
    let rest = c.in-Some-eq64-default.moment.now in
    at_fault c.args.text.now rest _ (c.in-Some-eq64-default.ensures.cases.0 ∙ ap (λ (b : ℕ). b ∷ rest) c.in-Some-eq64-default.field-0-0-test) c.in-Err.ensures.only

pub returns-in-None-read_number-clause-fault : goal.returns-in-None-read_number-clause-fault
returns-in-None-read_number-clause-fault c =
    number_fault c.args.text.now c.in-Some.number.now c.in-Some.field-0-0.now c.requires c.in-Some.ensures.cases.0 c.in-Some.field-0-0-test.1 c.in-None-read_number.ensures.only
