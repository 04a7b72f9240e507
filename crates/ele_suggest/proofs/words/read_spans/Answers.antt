use Rattle.std.proofs.Common.{rules, tests, ◌==◌, ◌∙◌, length, map, Bor, List, ℕ, sym, subst}
use Rattle.std.proofs.lemmas.Bool.{eqb-true}
use Rattle.std.proofs.lemmas.List.{length-map, map-append}
use Rattle.std.proofs.lemmas.Iterator.Splits.{YieldsList-from_slice_split}
use Rattle.std.proofs.lemmas.Iterator.Consumers.{YieldsList-at, YieldsList-turn, YieldsList-end}
use Rattle.std.specs.List.{AllZip}
use Rattle.ele_suggest.specs.Words.{SpellsSpan}
use Rattle.ele_suggest.proofs.SpanLists.{each_span, few_more, spans_push, too_many}
use Rattle.ele_suggest.proofs.words.read_spans.Goals as goal

pub returns-in_default-clause-none : goal.returns-in_default-clause-none
returns-in_default-clause-none c spans spelled =
    let turn = YieldsList-turn (YieldsList-at c.into_iter-part-iterator.ensures.into_iter_gives (YieldsList-from_slice_split _ (λ byte. byte == 44) c.args.text.now c.split-part-items.ensures.rest c.split-part-items.ensures.done c.split-part-items.ensures.closure (λ x b q h. search (rules, tests)))) c.loop-part.yielded _ c.loop-part.yielded_by _ _ c.in-Some.part c.in-Some.is c.next.ensures.steps in
    absurd (each_span _ spans _ _ spelled.each turn.0 turn.1 c.in_default.ensures.only)

pub returns-then-is_full-clause-none : goal.returns-then-is_full-clause-none
returns-then-is_full-clause-none c spans spelled =
    let turn = YieldsList-turn (YieldsList-at c.into_iter-part-iterator.ensures.into_iter_gives (YieldsList-from_slice_split _ (λ byte. byte == 44) c.args.text.now c.split-part-items.ensures.rest c.split-part-items.ensures.done c.split-part-items.ensures.closure (λ x b q h. search (rules, tests)))) c.loop-part.yielded _ c.loop-part.yielded_by _ _ c.in-Some.part c.in-Some.is c.next.ensures.steps in
    let words = map (λ (part : Bor (List ℕ)). part.now) c.loop-part.yielded in
    let full = eqb-true (length c.loop-part.spans.items) 8 (sym c.is_full.ensures.value ∙ c.if-is_full.true) in
    too_many _ words spans c.loop-part.spans.items _ spelled.each spelled.few c.loop-part.invariant.0 turn.0 (sym (length-map c.loop-part.yielded (λ (part : Bor (List ℕ)). part.now))) full

pub loop-part-preserved : goal.loop-part-preserved
loop-part-preserved c =
    let words = map (λ (part : Bor (List ℕ)). part.now) c.loop-part.yielded in
    let few = few_more c.loop-part.spans.items c.in-Some-read_span.span c.loop-part.invariant.1 (sym c.is_full.ensures.value ∙ c.if-is_full.false) in
    rw (c.push.ensures.items, map-append) (spans_push words c.loop-part.spans.items c.in-Some.part.now c.in-Some-read_span.span c.loop-part.invariant.0 c.in-Some-read_span.ensures.found, few)

pub returns-clause-some : goal.returns-clause-some
returns-clause-some c =
    let all = (YieldsList-end (YieldsList-at c.into_iter-part-iterator.ensures.into_iter_gives (YieldsList-from_slice_split _ (λ byte. byte == 44) c.args.text.now c.split-part-items.ensures.rest c.split-part-items.ensures.done c.split-part-items.ensures.closure (λ x b q h. search (rules, tests)))) c.loop-part.yielded _ c.loop-part.yielded_by _ _ c.in-None.is c.next.ensures.steps).0 in
    record {
      each = subst (λ words. AllZip SpellsSpan words c.loop-part.spans.items) all c.loop-part.invariant.0;
      few = c.loop-part.invariant.1;
    }
