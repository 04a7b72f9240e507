use Rattle.std.proofs.Common.{◌∙◌, Bool, Ok, Some, ap, ap₂, sym}
use Rattle.std.proofs.lemmas.Option.{same_Some}
use Rattle.ele_invocation.specs.Forecasts.{answer_of}
use Rattle.ele_invocation.proofs.Asking.{only_answer, some_given}
use Rattle.ele_invocation.proofs.reading.form_in.Goals as goal

pub returns-in-Some-clause-found : goal.returns-in-Some-clause-found
returns-in-Some-clause-found c =
    let against = c.is_some-against.ensures ∙ some_given _ _ c.value_of.ensures in
    record {
      plain = c.in_ok-plain.plain;
      plain_is = c.in_ok-plain.ensures.found;
      answered = ap₂ (λ (a s : Bool). answer_of a s c.in_ok-plain.plain) (sym against) (sym c.is_on-suggest.ensures) ∙ sym c.in-Some.ensures;
    }

pub returns-in-Some-clause-only : goal.returns-in-Some-clause-only
returns-in-Some-clause-only c form is =
    let against = c.is_some-against.ensures ∙ some_given _ _ c.value_of.ensures in
    let answered = c.in-Some.ensures ∙ ap₂ (λ (a s : Bool). answer_of a s c.in_ok-plain.plain) against c.is_on-suggest.ensures in
    ap (λ f. Ok f) (same_Some _ _ (only_answer _ c.in_ok-plain.plain form (Some c.in-Some.form) c.in_ok-plain.ensures.only answered is))
