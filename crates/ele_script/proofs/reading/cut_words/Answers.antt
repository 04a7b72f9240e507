use Rattle.ele_script.proofs.Basics.{List, ℕ, drop, ap, sym, ◌∙◌, arith}
use Rattle.ele_script.proofs.Words.{cut_more, cut_last, cut_worded}
use Rattle.ele_script.proofs.reading.cut_words.Goals as goal

pub words-preserved : goal.words-preserved
words-preserved c =
    cut_more _ _ _ _ _ _ _ c.words.invariant (sym c.word_end.ensures ∙ c.in-Some.is) c.if-rest-at-ne32.false (omega (arith, c.if-at-eq0.false)) c.split_at.ensures.front (c.split_at-in-Some.ensures.back ∙ ap (λ (xs : List ℕ). drop 1 xs) c.split_at.ensures.back) c.push.ensures.items

pub returns-clause-found : goal.returns-clause-found
returns-clause-found c = λ done. cut_last _ _ _ _ c.words.invariant (sym c.word_end.ensures ∙ c.in_default.is) c.push-2.ensures.items

pub returns-clause-worded : goal.returns-clause-worded
returns-clause-worded c = λ done.
    cut_worded _ _ _ _ c.words.invariant (sym c.word_end.ensures ∙ c.in_default.is) c.push-2.ensures.items (sym c.is_empty.ensures ∙ c.if-is_empty.false)
