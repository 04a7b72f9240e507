use Rattle.ele_reasons.proofs.Prelude.{kinds_of}
use Rattle.ele_reasons.proofs.Basics.{nat_lt, ℕ, List, Bor, length, map, sym, ap, ◌∙◌, length-map}
use Rattle.ele_reasons.proofs.WhyBad.{kinds_are, reason_memory, reason_none, reason_some, unknown_reason, words_fit, words_miscounted}
use Rattle.ele_reasons.proofs.bad_word.words_reason.Goals as goal

abbrev bytes : Bor (List ℕ) → List ℕ
bytes word = word.now

pub returns-in_default-clause-some : goal.returns-in_default-clause-some
returns-in_default-clause-some c = unknown_reason _ _ _ (sym c.in_default.ensures) c.unknown_number-number.ensures c.hint.ensures

pub returns-then-behind-kinds-clause-some : goal.returns-then-behind-kinds-clause-some
returns-then-behind-kinds-clause-some c =
    let behind = c.in-Some.behind.now in
    let kinds = kinds_are c.in-Some.command bytes behind _ c.kinds_for-kinds.ensures in
    words_miscounted _ c.in-Some.command (map bytes behind) _ (sym c.in-Some.ensures) (λ same. c.if-behind-kinds.true (sym (length-map behind bytes) ∙ same ∙ ap length (sym kinds)))
    (c.exceeds.ensures ∙ ap (nat_lt (length (kinds_of c.in-Some.command))) (sym (length-map behind bytes)))

pub returns-clause-some : goal.returns-clause-some
returns-clause-some c =
    let behind = c.in-Some.behind.now in
    let kinds = kinds_are c.in-Some.command bytes behind _ c.kinds_for-kinds.ensures in
    let fits = words_fit _ c.in-Some.command (map bytes behind) (sym c.in-Some.ensures) (length-map behind bytes ∙ c.if-behind-kinds.false ∙ ap length kinds) in
    reason_some _ c.in-Some.command (map bytes behind) _ c.bad_word.result fits c.name_length.ensures.is (rw kinds at c.bad_word.ensures.some)

pub returns-clause-none : goal.returns-clause-none
returns-clause-none c =
    let behind = c.in-Some.behind.now in
    let kinds = kinds_are c.in-Some.command bytes behind _ c.kinds_for-kinds.ensures in
    let fits = words_fit _ c.in-Some.command (map bytes behind) (sym c.in-Some.ensures) (length-map behind bytes ∙ c.if-behind-kinds.false ∙ ap length kinds) in
    reason_none _ c.in-Some.command (map bytes behind) c.bad_word.result fits (rw kinds at c.bad_word.ensures.none)

pub returns-clause-memory : goal.returns-clause-memory
returns-clause-memory c =
    let behind = c.in-Some.behind.now in
    let kinds = kinds_are c.in-Some.command bytes behind _ c.kinds_for-kinds.ensures in
    let fits = words_fit _ c.in-Some.command (map bytes behind) (sym c.in-Some.ensures) (length-map behind bytes ∙ c.if-behind-kinds.false ∙ ap length kinds) in
    reason_memory _ c.in-Some.command (map bytes behind) c.bad_word.result fits (rw kinds at c.bad_word.ensures.memory)
