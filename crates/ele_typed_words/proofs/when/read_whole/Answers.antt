use Rattle.std.proofs.Common.{ℕ, List, Option, IfSome, sym, subst, ◌∙◌}
use Rattle.ele_tool_words.specs.Time.{SpellsTime}
use Rattle.ele_typed_words.proofs.Sums.{whole_is, whole_made}
use Rattle.ele_typed_words.proofs.when.read_whole.Goals as goal

pub returns-then-lacks_seconds-clause-found : goal.returns-then-lacks_seconds-clause-found
returns-then-lacks_seconds-clause-found c =
    let made = whole_made c.args.word.now (sym c.lacks_seconds.ensures ∙ c.if-lacks_seconds.true) in
    subst (λ (w : List ℕ). IfSome c.read_printed.result (SpellsTime w)) (c.as_slice.ensures.value ∙ c.whole_of-whole.ensures ∙ sym made) c.read_printed.ensures.found

pub returns-then-lacks_seconds-clause-only : goal.returns-then-lacks_seconds-clause-only
returns-then-lacks_seconds-clause-only c = λ m h.
    let made = whole_made c.args.word.now (sym c.lacks_seconds.ensures ∙ c.if-lacks_seconds.true) in
    c.read_printed.ensures.only m (subst (λ (w : List ℕ). SpellsTime w m) (made ∙ sym c.whole_of-whole.ensures ∙ sym c.as_slice.ensures.value) h)

pub returns-else-lacks_seconds-clause-found : goal.returns-else-lacks_seconds-clause-found
returns-else-lacks_seconds-clause-found c =
    let whole = whole_is c.args.word.now (sym c.lacks_seconds.ensures ∙ c.if-lacks_seconds.false) in
    subst (λ (w : List ℕ). IfSome c.read_printed-else-lacks_seconds.result (SpellsTime w)) (sym whole) c.read_printed-else-lacks_seconds.ensures.found

pub returns-else-lacks_seconds-clause-only : goal.returns-else-lacks_seconds-clause-only
returns-else-lacks_seconds-clause-only c = λ m h.
    let whole = whole_is c.args.word.now (sym c.lacks_seconds.ensures ∙ c.if-lacks_seconds.false) in
    c.read_printed-else-lacks_seconds.ensures.only m (subst (λ (w : List ℕ). SpellsTime w m) whole h)
