use Rattle.ele_runs.proofs.Basics.{arith, refl, sym, ◌∙◌}
use Rattle.ele_runs.proofs.Pieces.{answered_none, answered_more, answered_some, answers_all, answers_err, answers_last, number_told}
use Rattle.ele_runs.proofs.lines.answer_piece.Goals as goal

pub lines-init : goal.lines-init
lines-init g c = (c.requires.few, c.requires.goes_on, c.requires.works, λ part whole keeps. answered_none _ part _ _ _ c.requires.goes_on whole keeps)

pub returns-in_err-check : goal.returns-in_err-check
returns-in_err-check g c =
    λ part whole keeps. answers_err _ _ _ _ _ _ _ c.from_residual.result c.from_residual.ensures.0 (answered_some (c.lines.invariant.3 part whole keeps) _ _ c.in-Some.ensures refl c.put_whole.ensures.block)

pub returns-then-has_ended : goal.returns-then-has_ended
returns-then-has_ended g c =
    let ended = sym c.has_ended.ensures ∙ c.if-has_ended.true in
    λ part whole keeps. answers_last (c.lines.invariant.3 part whole keeps) _ _ c.in-Some.ensures refl c.put_whole.ensures.block ended (c.put_whole.ensures.kept ended)

pub lines-preserved : goal.lines-preserved
lines-preserved g c =
    let goes_on = sym c.has_ended.ensures ∙ c.if-has_ended.false in (
      omega (arith, c.lines.invariant.0, c.split_at.ensures.back_len, number_told c.put_whole.ensures.block.is),
      goes_on,
      sym c.in_ok-check.ensures,
      λ part whole keeps. answered_more (c.lines.invariant.3 part whole keeps) _ _ c.in-Some.ensures refl c.put_whole.ensures.block _ c.split_at.ensures.back goes_on (c.put_whole.ensures.begun goes_on),
    )

pub returns : goal.returns
returns g c = λ part whole keeps. answers_all (c.lines.invariant.3 part whole keeps) c.in_default.ensures c.extend.ensures
