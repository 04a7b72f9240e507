use Rattle.std.proofs.Common.{inr, sym, ◌∙◌}
use Rattle.std.proofs.lemmas.Result.{IfErr-weaker, IfOk-weaker}
use Rattle.ele_dialog.proofs.Dated.{shown_dated, shown_plain}
use Rattle.ele_dialog.proofs.Reasons.{with_places}
use Rattle.ele_dialog.proofs.answer.put_said.Goals as goal

pub returns-in-Some : goal.returns-in-Some
returns-in-Some g c =
    let is = rw c.last_reply-2.ensures at (sym c.places_of.ensures ∙ c.in-Some.is) in
    let put = rw (c.heading_of-heading.ensures, c.last_reply.ensures) at c.put_with_dates.ensures.ok in
    record {
      ok = IfOk-weaker c.put_with_dates.result _ _ (λ _ h. (h.0, h.1, h.2, shown_dated _ _ _ _ is h.3, h.4)) put;
      err = IfErr-weaker c.put_with_dates.result _ _ (λ _ h. (with_places _ _ _ is, h)) c.put_with_dates.ensures.err;
    }

pub returns-in-None : goal.returns-in-None
returns-in-None g c =
    let is = rw c.last_reply-2.ensures at (sym c.places_of.ensures ∙ c.in-None.is) in
    let put = rw (c.heading_of-heading.ensures, c.last_reply.ensures) at c.put_under.ensures.ok in
    let unput = rw (c.heading_of-heading.ensures, c.last_reply.ensures) at c.put_under.ensures.err in
    record {
      ok = IfOk-weaker c.put_under.result _ _ (λ _ h. (h.0, h.0, h.1, shown_plain _ _ is, h.2)) put;
      err = IfErr-weaker c.put_under.result _ _ (λ _ h. (inr h.0, h.1)) unput;
    }
