use Rattle.std.proofs.Common.{sym, ◌∙◌, refl}
use Rattle.ele_typed_words.specs.Reason.{formless, ladder, month, safe}
use Rattle.ele_typed_words.proofs.reason.policy_reason.Goals as goal

pub returns-then-has_month : goal.returns-then-has_month
returns-then-has_month c = month (sym c.has_month.ensures ∙ c.if-has_month.true) refl

pub returns-in-Some : goal.returns-in-Some
returns-in-Some c = safe (sym c.has_month.ensures ∙ c.if-has_month.false) c.in-Some.text.now c.in-Some.ensures c.safe_text_reason.ensures

pub returns-in-Some-behind : goal.returns-in-Some-behind
returns-in-Some-behind c = ladder (sym c.has_month.ensures ∙ c.if-has_month.false) c.in-Some-behind.text.now c.in-Some-behind.ensures c.ladder_text_reason.ensures
