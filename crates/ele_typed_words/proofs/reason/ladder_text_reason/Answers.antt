use Rattle.std.proofs.Common.{◌∙◌, ap, ◌≡◌, ◌≤◌, length, List, subst}
use Rattle.ele_policy.specs.Ladder.{Rung, ground}
use Rattle.ele_typed_words.specs.Reason.{ladder_formless, ladder_spelled, rungs_reason}
use Rattle.ele_typed_words.proofs.reason.ladder_text_reason.Goals as goal

pub returns-in-Some : goal.returns-in-Some
returns-in-Some c =
    ladder_spelled c.in-Some.rungs.items c.in-Some.ensures.some (subst (λ (rs : List Rung). length rs ≤ 8) c.as_slice.ensures.value c.as_slice.ensures.fits) (c.rungs_reason.ensures ∙ ap (rungs_reason ground) c.as_slice.ensures.value)

pub returns-in-None : goal.returns-in-None
returns-in-None c = ladder_formless c.in-None.ensures.none c.unread_reason.ensures
