use Rattle.std.proofs.Common.{rules, tests, ◌≡◌, ◌+◌, ◌==◌, ◌∙◌, length, length-append, map, Bor, false, List, [], ◌∷◌, ℕ, inl, inr, sym, ap, subst, arith, true≢false}
use Rattle.std.proofs.lemmas.Bool.{eqb-true}
use Rattle.std.proofs.lemmas.List.{length-map, map-append}
use Rattle.std.proofs.lemmas.Iterator.Splits.{YieldsList-from_slice_split}
use Rattle.std.proofs.lemmas.Iterator.Consumers.{YieldsList-at, YieldsList-so_far, YieldsList-turn, YieldsList-end}
use Rattle.std.specs.List.{AllZip, slice_split}
use Rattle.ele_rule_parts.specs.declared.part.Part.{Part}
use Rattle.ele_peer_rules.specs.declared.reading.RuleFault.{RuleFault}
use Rattle.ele_peer_rules.specs.Kept.{rank_of}
use Rattle.ele_peer_rules.specs.Words.{AreApart, has_rank}
use Rattle.ele_rule_parts.specs.Marked.{is_mark}
use Rattle.ele_peer_rules.proofs.RuleParts.{IsOnly, all_spelled, apart_next, apart_push, each_part, first_wrong, next_same, no_part, only_push, room, same_count, same_ok}
use Rattle.ele_peer_rules.proofs.reading.read_parts.Goals as goal

pub returns-in-Err-clause-none : goal.returns-in-Err-clause-none
returns-in-Err-clause-none c parts spelled =
    let turn = YieldsList-turn (YieldsList-at c.into_iter-option-iterator.ensures.into_iter_gives (YieldsList-from_slice_split _ (λ byte. byte == 44) c.args.text.now c.split-option-items.ensures.rest c.split-option-items.ensures.done c.split-option-items.ensures.closure (λ x b q h. search (rules, tests)))) c.loop-option.yielded _ c.loop-option.yielded_by _ _ c.in-Some.option c.in-Some.is c.next.ensures.steps in
    each_part c.args.tool _ parts _ _ c.in-Err.wrong spelled.each turn.0 turn.1 c.in-Err.ensures.only

pub returns-then-is_full-clause-none : goal.returns-then-is_full-clause-none
returns-then-is_full-clause-none c parts spelled =
    let turn = YieldsList-turn (YieldsList-at c.into_iter-option-iterator.ensures.into_iter_gives (YieldsList-from_slice_split _ (λ byte. byte == 44) c.args.text.now c.split-option-items.ensures.rest c.split-option-items.ensures.done c.split-option-items.ensures.closure (λ x b q h. search (rules, tests)))) c.loop-option.yielded _ c.loop-option.yielded_by _ _ c.in-Some.option c.in-Some.is c.next.ensures.steps in
    let words = map (λ (option : Bor (List ℕ)). option.now) c.loop-option.yielded in
    let full = eqb-true (length c.loop-option.parts.items) 18 (sym c.is_full.ensures.value ∙ c.if-is_full.true) in
    let kept = same_count c.args.tool words c.loop-option.parts.items (all_spelled c.args.tool words c.loop-option.parts.items c.loop-option.invariant.each) in
    let all = same_count c.args.tool (slice_split (is_mark 44) c.args.text.now) parts spelled.each in
    omega (arith, turn.0, full, kept, all, spelled.few, length-map c.loop-option.yielded (λ (option : Bor (List ℕ)). option.now))

pub returns-then-has_rank-clause-none : goal.returns-then-has_rank-clause-none
returns-then-has_rank-clause-none c parts spelled =
    let turn = YieldsList-turn (YieldsList-at c.into_iter-option-iterator.ensures.into_iter_gives (YieldsList-from_slice_split _ (λ byte. byte == 44) c.args.text.now c.split-option-items.ensures.rest c.split-option-items.ensures.done c.split-option-items.ensures.closure (λ x b q h. search (rules, tests)))) c.loop-option.yielded _ c.loop-option.yielded_by _ _ c.in-Some.option c.in-Some.is c.next.ensures.steps in
    let far = YieldsList-so_far (YieldsList-at c.into_iter-option-iterator.ensures.into_iter_gives (YieldsList-from_slice_split _ (λ byte. byte == 44) c.args.text.now c.split-option-items.ensures.rest c.split-option-items.ensures.done c.split-option-items.ensures.closure (λ x b q h. search (rules, tests)))) c.loop-option.yielded _ c.loop-option.yielded_by in
    let each = subst (λ (ws : List (List ℕ)). AllZip (IsOnly c.args.tool) ws c.loop-option.parts.items) far c.loop-option.invariant.each in
    let only : IsOnly c.args.tool c.in-Some.option.now c.in-Ok.part = record { is = c.in-Ok.ensures.found; only = λ other s. same_ok c.in-Ok.part other (c.in-Ok.ensures.only other s) } in
    let next = next_same c.args.tool (slice_split (is_mark 44) c.args.text.now) (length c.loop-option.yielded) c.loop-option.parts.items parts c.in-Some.option.now c.in-Ok.part spelled.each each turn.0 turn.1 only in
    let apart = subst (λ (ps : List Part). AreApart [] ps) next.1 spelled.once in
    let new = apart_next [] c.loop-option.parts.items c.in-Ok.part next.0 apart in
    let same = ap (λ (rank : ℕ). has_rank rank c.as_slice.result.now) c.rank_of.ensures.rank ∙ ap (λ (ps : List Part). has_rank (rank_of c.in-Ok.part) ps) c.as_slice.ensures.value in
    true≢false (sym c.if-has_rank.true ∙ c.has_rank.ensures ∙ same ∙ new)

pub loop-option-preserved : goal.loop-option-preserved
loop-option-preserved c =
    let words = map (λ (option : Bor (List ℕ)). option.now) c.loop-option.yielded in
    let only : IsOnly c.args.tool c.in-Some.option.now c.in-Ok.part = record { is = c.in-Ok.ensures.found; only = λ other s. same_ok c.in-Ok.part other (c.in-Ok.ensures.only other s) } in
    let same = ap (λ (rank : ℕ). has_rank rank c.as_slice.result.now) c.rank_of.ensures.rank ∙ ap (λ (ps : List Part). has_rank (rank_of c.in-Ok.part) ps) c.as_slice.ensures.value in
    let new : has_rank (rank_of c.in-Ok.part) c.loop-option.parts.items ≡ false = sym same ∙ sym c.has_rank.ensures ∙ c.if-has_rank.false in
    let few = room (length c.loop-option.parts.items) _ c.is_full.ensures.value c.if-is_full.false c.loop-option.invariant.few in
    record {
      each = rw (c.push.ensures.items, map-append) (only_push c.args.tool words c.loop-option.parts.items c.in-Some.option.now c.in-Ok.part c.loop-option.invariant.each only);
      once = rw c.push.ensures.items (apart_push [] c.loop-option.parts.items c.in-Ok.part c.loop-option.invariant.once new);
      few = rw c.push.ensures.items (omega (arith, few, length-append c.loop-option.parts.items (c.in-Ok.part ∷ [])));
    }

pub returns-clause-found : goal.returns-clause-found
returns-clause-found c =
    let all = (YieldsList-end (YieldsList-at c.into_iter-option-iterator.ensures.into_iter_gives (YieldsList-from_slice_split _ (λ byte. byte == 44) c.args.text.now c.split-option-items.ensures.rest c.split-option-items.ensures.done c.split-option-items.ensures.closure (λ x b q h. search (rules, tests)))) c.loop-option.yielded _ c.loop-option.yielded_by _ _ c.in-None.is c.next.ensures.steps).0 in
    let each = subst (λ (ws : List (List ℕ)). AllZip (IsOnly c.args.tool) ws c.loop-option.parts.items) all c.loop-option.invariant.each in
    record {
      each = all_spelled c.args.tool _ c.loop-option.parts.items each;
      once = c.loop-option.invariant.once;
      few = c.loop-option.invariant.few;
    }

pub returns-in-Err-clause-first : goal.returns-in-Err-clause-first
returns-in-Err-clause-first c =
    let turn = YieldsList-turn (YieldsList-at c.into_iter-option-iterator.ensures.into_iter_gives (YieldsList-from_slice_split _ (λ byte. byte == 44) c.args.text.now c.split-option-items.ensures.rest c.split-option-items.ensures.done c.split-option-items.ensures.closure (λ x b q h. search (rules, tests)))) c.loop-option.yielded _ c.loop-option.yielded_by _ _ c.in-Some.option c.in-Some.is c.next.ensures.steps in
    let far = YieldsList-so_far (YieldsList-at c.into_iter-option-iterator.ensures.into_iter_gives (YieldsList-from_slice_split _ (λ byte. byte == 44) c.args.text.now c.split-option-items.ensures.rest c.split-option-items.ensures.done c.split-option-items.ensures.closure (λ x b q h. search (rules, tests)))) c.loop-option.yielded _ c.loop-option.yielded_by in
    let each = subst (λ (ws : List (List ℕ)). AllZip (IsOnly c.args.tool) ws c.loop-option.parts.items) far c.loop-option.invariant.each in
    first_wrong c.args.tool (slice_split (is_mark 44) c.args.text.now) (length c.loop-option.yielded) c.loop-option.parts.items c.in-Some.option.now c.fault.result turn.0 turn.1 each c.loop-option.invariant.once
    (ap (λ (f : RuleFault). f.option) c.fault.ensures ∙ ap (λ (n : ℕ). n + 1) c.len.ensures.value)
    (inl (record { none = λ part s. no_part c.in-Err.wrong part (c.in-Err.ensures.only part s); wrong_is = ap (λ (f : RuleFault). f.wrong) c.fault.ensures ∙ c.in-Err.ensures.wrong }))

pub returns-then-is_full-clause-first : goal.returns-then-is_full-clause-first
returns-then-is_full-clause-first c =
    let full = eqb-true (length c.loop-option.parts.items) 18 (sym c.is_full.ensures.value ∙ c.if-is_full.true) in
    let turn = YieldsList-turn (YieldsList-at c.into_iter-option-iterator.ensures.into_iter_gives (YieldsList-from_slice_split _ (λ byte. byte == 44) c.args.text.now c.split-option-items.ensures.rest c.split-option-items.ensures.done c.split-option-items.ensures.closure (λ x b q h. search (rules, tests)))) c.loop-option.yielded _ c.loop-option.yielded_by _ _ c.in-Some.option c.in-Some.is c.next.ensures.steps in
    let far = YieldsList-so_far (YieldsList-at c.into_iter-option-iterator.ensures.into_iter_gives (YieldsList-from_slice_split _ (λ byte. byte == 44) c.args.text.now c.split-option-items.ensures.rest c.split-option-items.ensures.done c.split-option-items.ensures.closure (λ x b q h. search (rules, tests)))) c.loop-option.yielded _ c.loop-option.yielded_by in
    let each = subst (λ (ws : List (List ℕ)). AllZip (IsOnly c.args.tool) ws c.loop-option.parts.items) far c.loop-option.invariant.each in
    first_wrong c.args.tool (slice_split (is_mark 44) c.args.text.now) (length c.loop-option.yielded) c.loop-option.parts.items c.in-Some.option.now c.fault-then-is_full.result turn.0 turn.1 each c.loop-option.invariant.once
    (ap (λ (f : RuleFault). f.option) c.fault-then-is_full.ensures ∙ ap (λ (n : ℕ). n + 1) c.len.ensures.value)
    (inr (record { part = c.in-Ok.part; spelled = c.in-Ok.ensures.found; again = inr full; wrong_is = ap (λ (f : RuleFault). f.wrong) c.fault-then-is_full.ensures }))

pub returns-then-has_rank-clause-first : goal.returns-then-has_rank-clause-first
returns-then-has_rank-clause-first c =
    let same = ap (λ (rank : ℕ). has_rank rank c.as_slice.result.now) c.rank_of.ensures.rank ∙ ap (λ (ps : List Part). has_rank (rank_of c.in-Ok.part) ps) c.as_slice.ensures.value in
    let again = sym same ∙ sym c.has_rank.ensures ∙ c.if-has_rank.true in
    let turn = YieldsList-turn (YieldsList-at c.into_iter-option-iterator.ensures.into_iter_gives (YieldsList-from_slice_split _ (λ byte. byte == 44) c.args.text.now c.split-option-items.ensures.rest c.split-option-items.ensures.done c.split-option-items.ensures.closure (λ x b q h. search (rules, tests)))) c.loop-option.yielded _ c.loop-option.yielded_by _ _ c.in-Some.option c.in-Some.is c.next.ensures.steps in
    let far = YieldsList-so_far (YieldsList-at c.into_iter-option-iterator.ensures.into_iter_gives (YieldsList-from_slice_split _ (λ byte. byte == 44) c.args.text.now c.split-option-items.ensures.rest c.split-option-items.ensures.done c.split-option-items.ensures.closure (λ x b q h. search (rules, tests)))) c.loop-option.yielded _ c.loop-option.yielded_by in
    let each = subst (λ (ws : List (List ℕ)). AllZip (IsOnly c.args.tool) ws c.loop-option.parts.items) far c.loop-option.invariant.each in
    first_wrong c.args.tool (slice_split (is_mark 44) c.args.text.now) (length c.loop-option.yielded) c.loop-option.parts.items c.in-Some.option.now c.fault-then-has_rank.result turn.0 turn.1 each c.loop-option.invariant.once
    (ap (λ (f : RuleFault). f.option) c.fault-then-has_rank.ensures ∙ ap (λ (n : ℕ). n + 1) c.len.ensures.value)
    (inr (record { part = c.in-Ok.part; spelled = c.in-Ok.ensures.found; again = inl again; wrong_is = ap (λ (f : RuleFault). f.wrong) c.fault-then-has_rank.ensures }))
