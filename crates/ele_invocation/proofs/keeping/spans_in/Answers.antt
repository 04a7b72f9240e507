use Rattle.std.proofs.Common.{◌∙◌, ℕ, List, Option, ap, sym, subst}
use Rattle.ele_suggest.specs.Asked.{rise_from}
use Rattle.ele_suggest.specs.Words.{SpellsSpans}
use Rattle.ele_invocation.specs.Forecasts.{AreSpans}
use Rattle.ele_invocation.proofs.Kept.{no_rise}
use Rattle.ele_invocation.proofs.keeping.spans_in.Goals as goal

pub returns-then-not-ages_rise-clause-unread : goal.returns-then-not-ages_rise-clause-unread
returns-then-not-ages_rise-clause-unread c x is =
    let read = subst (λ (w : List ℕ). SpellsSpans w c.in-Some-read_spans.spans.items) c.as_bytes.ensures.value c.in-Some-read_spans.ensures.some in
    let falls = ap (rise_from 0) (sym c.as_slice.ensures.value) ∙ sym c.if-not-ages_rise.ensures in
    no_rise c.in-Some.word.now c.in-Some-read_spans.spans.items read falls x (subst (λ (o : Option (List ℕ)). AreSpans o x) (sym c.in-Some.ensures) is)
