use Rattle.ele_script.proofs.Basics.{◌∙◌, sym, false≢true, err_from_is_err_and}
use Rattle.ele_script.proofs.Prelude.{Safe}
use Rattle.ele_script.proofs.Policies.{differs, formless_word, refused_ladder}
use Rattle.ele_script.proofs.word.policy.Goals as goal

pub returns-in_err-new : goal.returns-in_err-new
returns-in_err-new c =
    let p = err_from_is_err_and c.from_residual.result c.from_residual.ensures.1 in
    rw (p.1, p.2) (Safe c.in-Some.seconds c.in-Some.floor, c.in-Some.ensures.some, λ is. false≢true (c.in_err-new.ensures.valid.1 is.0))

pub returns-in_err-new-2 : goal.returns-in_err-new-2
returns-in_err-new-2 c =
    let p = err_from_is_err_and c.from_residual-in_err-new-2.result c.from_residual-in_err-new-2.ensures.1 in
    rw (p.1, p.2) (Safe c.in-Some.seconds c.in-Some.floor, c.in-Some.ensures.some, λ is. false≢true (c.in_err-new-2.ensures.valid.1 is.1))

pub returns-in_default-ladder_pairs :
    goal.returns-in_default-ladder_pairs
returns-in_default-ladder_pairs c =
    let word = c.args.word.now in
    let not_one = differs word _ (sym (rw c.as_slice.ensures at c.eq.ensures) ∙ c.if-eq.false) in
    let not_all = differs word _ (sym (rw c.as_slice-2.ensures at c.eq-2.ensures) ∙ c.if-eq-2.false) in
    formless_word word not_one not_all c.in_default.ensures.none c.in_default-ladder_pairs.ensures.none

pub returns-in_err-new-3 : goal.returns-in_err-new-3
returns-in_err-new-3 c =
    let p = err_from_is_err_and c.from_residual-in_err-new-3.result c.from_residual-in_err-new-3.ensures.1 in
    rw (p.1, p.2) (refused_ladder c.args.word.now _ c.in-Some-ladder_pairs.ensures.some (λ is. false≢true (c.in_err-new-3.ensures.valid.1 (rw c.as_slice-3.ensures.value is))))
