use Rattle.std.proofs.Common.{ℕ, List, ◌∙◌, ap, sym, subst}
use Rattle.std.proofs.lemmas.Option.{same_Some}
use Rattle.ele_tool_words.specs.Length.{SpellsLength}
use Rattle.ele_suggest.specs.Words.{grain_of}
use Rattle.ele_suggest.proofs.SpanLists.{span_same}
use Rattle.ele_suggest.proofs.words.read_span.Goals as goal

pub returns-clause-only : goal.returns-clause-only
returns-clause-only c span is =
    span_same c.in-Some-read_length.age c.in-Some-grain_of.grain span
    (same_Some _ _ (c.in-Some-read_length.ensures.only span.age (subst (λ (w : List ℕ). SpellsLength w span.age) (sym c.in-Some.ensures.before) is.age)))
    (same_Some _ _ (c.in-Some-grain_of.ensures ∙ ap grain_of c.in-Some.ensures.after ∙ is.grain))
