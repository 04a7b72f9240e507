use Rattle.ele_script.proofs.Basics.{rules, tests, ◌==◌, ◌∙◌, ◌<◌, length, map, Bor, List, ℕ, sym, subst, arith, eqb-true, nat_tests, map-append}
use Rattle.ele_script.proofs.Prelude.{Keeps}
use Rattle.std.proofs.lemmas.Iterator.Splits.{YieldsList-from_slice_split}
use Rattle.std.proofs.lemmas.Iterator.Consumers.{YieldsList-at, YieldsList-turn, YieldsList-end}
use Rattle.ele_script.proofs.PairWords.{all_pairs, parts_are, keeps_more, keeps_first}
use Rattle.ele_script.proofs.pairs.read_pairs.Goals as goal

pub returns-in_err-pair-clause-none : goal.returns-in_err-pair-clause-none
returns-in_err-pair-clause-none c =
    let parts = parts_are c.args.text.now (sym c.is_empty.ensures ∙ c.if-is_empty.false) in
    let turn = YieldsList-turn (YieldsList-at c.into_iter-part-iterator.ensures.into_iter_gives (YieldsList-from_slice_split _ (λ byte. byte == 44) c.args.text.now c.split-part-items.ensures.rest c.split-part-items.ensures.done c.split-part-items.ensures.closure (λ x b q h. search (rules, tests)))) c.loop-part.yielded _ c.loop-part.yielded_by _ _ c.in-Some.part c.in-Some.is c.next.ensures.steps in
    rw c.from_residual.ensures (λ pairs spelled. all_pairs _ pairs _ _ (rw parts at spelled) turn.0 turn.1 c.in_err-pair.ensures.none)

pub loop-part-preserved-then-not-is_full : goal.loop-part-preserved-then-not-is_full
loop-part-preserved-then-not-is_full c =
    let words = map (λ (part : Bor (List ℕ)). part.now) c.loop-part.yielded in
    let few : length c.loop-part.pairs.items < 9 = grind (arith, nat_tests, c.if-not-is_full.ensures.value, c.if-not-is_full.ensures.fits) in
    rw (c.push.ensures.items, map-append) (keeps_more words c.loop-part.pairs.items c.in-Some.part.now c.in_ok-pair.pair c.loop-part.invariant c.in_ok-pair.ensures.some few)

pub loop-part-preserved : goal.loop-part-preserved
loop-part-preserved c =
    let words = map (λ (part : Bor (List ℕ)). part.now) c.loop-part.yielded in
    let full = eqb-true (length c.loop-part.pairs.items) 9 (sym c.is_full.ensures.value ∙ c.if-not-is_full.false) in
    rw map-append (keeps_first words c.loop-part.pairs.items c.in-Some.part.now c.in_ok-pair.pair c.loop-part.invariant c.in_ok-pair.ensures.some (omega (arith, full)))

pub returns-clause-some : goal.returns-clause-some
returns-clause-some c =
    let parts = parts_are c.args.text.now (sym c.is_empty.ensures ∙ c.if-is_empty.false) in
    let all = (YieldsList-end (YieldsList-at c.into_iter-part-iterator.ensures.into_iter_gives (YieldsList-from_slice_split _ (λ byte. byte == 44) c.args.text.now c.split-part-items.ensures.rest c.split-part-items.ensures.done c.split-part-items.ensures.closure (λ x b q h. search (rules, tests)))) c.loop-part.yielded _ c.loop-part.yielded_by _ _ c.in-None.is c.next.ensures.steps).0 in
    subst (λ words. Keeps words c.loop-part.pairs.items) (all ∙ sym parts) c.loop-part.invariant
