use Rattle.ele_reasons.proofs.Basics.{ℕ, List, Bor, length, map, sym, length-map, eqb-true, ◌∙◌}
use Rattle.ele_reasons.proofs.Cuts.{take_full}
use Rattle.ele_reasons.proofs.cut.keep.Goals as goal

pub returns-else-not-is_full : goal.returns-else-not-is_full
returns-else-not-is_full c =
    let items = c.args.words.now.items in
    let full = eqb-true (length items) 5 (sym c.is_full.ensures.value ∙ c.if-not-is_full.false) in
    sym (take_full 5 (map (λ (word : Bor (List ℕ)). word.now) items) _ (length-map items (λ (word : Bor (List ℕ)). word.now) ∙ full))
