use Rattle.std.proofs.Common.{refl}
use Rattle.std.proofs.lemmas.Result.{IfErr-weaker, IfOk-weaker}
use Rattle.ele_dialog.specs.Answer.IsAnswered.{heard, help}
use Rattle.ele_dialog.specs.Answer.IsUnanswered.{heard as unheard, help as unhelped}
use Rattle.ele_dialog.proofs.answer.put_line.Goals as goal

pub returns-in-Some : goal.returns-in-Some
returns-in-Some g c = record {
  ok = IfOk-weaker c.put_help.result _ _ (λ _ is. (is.0, help c.in-Some.topic.now c.in-Some.ensures is.1 refl, is.2)) c.put_help.ensures.ok;
  err = IfErr-weaker c.put_help.result _ _ (λ _ is. (unhelped c.in-Some.topic.now c.in-Some.ensures is.0 refl, is.1)) c.put_help.ensures.err;
}

pub returns-in-None : goal.returns-in-None
returns-in-None g c = record {
  ok = IfOk-weaker c.put_heard.result _ _ (λ _ is. (is.0, heard c.in-None.ensures is.1, is.2)) c.put_heard.ensures.ok;
  err = IfErr-weaker c.put_heard.result _ _ (λ _ is. (unheard c.in-None.ensures is.0, is.1)) c.put_heard.ensures.err;
}
