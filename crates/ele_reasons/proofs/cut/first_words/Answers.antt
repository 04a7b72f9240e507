use Rattle.ele_reasons.proofs.Basics.{◌<◌, ◌∷◌, ◌++◌, [], ℕ, List, take, drop, sym, ap, arith, refl, ◌∙◌, length-append}
use Rattle.ele_reasons.proofs.Cuts.{first_kept, fit_cut, fit_last, fit_more, unfit_byte, unfit_empty, unfit_none}
use Rattle.ele_script.proofs.Words.{cut_empty, cut_none, cut_unplain, unworded}
use Rattle.ele_reasons.proofs.cut.first_words.Goals as goal

pub returns-then-rest-at-ne32-clause-unfit : goal.returns-then-rest-at-ne32-clause-unfit
returns-then-rest-at-ne32-clause-unfit c =
    let i = c.words.invariant in
    unfit_byte _ i.0 _ _ _ _ i.1 (sym c.word_end.ensures ∙ c.in-Some.is) c.if-rest-at-ne32.true i.3 refl

pub returns-then-rest-at-ne32-clause-unworded : goal.returns-then-rest-at-ne32-clause-unworded
returns-then-rest-at-ne32-clause-unworded c =
    let i = c.words.invariant in
    unworded c.args.line.now (cut_unplain _ i.0 _ _ (fit_cut _ _ _ i.1) (sym c.word_end.ensures ∙ c.in-Some.is) c.if-rest-at-ne32.true)

pub returns-then-at-eq0-clause-unfit : goal.returns-then-at-eq0-clause-unfit
returns-then-at-eq0-clause-unfit c =
    let i = c.words.invariant in
    unfit_empty _ i.0 _ _ _ i.1 (sym c.word_end.ensures ∙ c.in-Some.is) c.if-rest-at-ne32.false c.if-at-eq0.true i.3

pub returns-then-at-eq0-clause-unworded : goal.returns-then-at-eq0-clause-unworded
returns-then-at-eq0-clause-unworded c =
    let i = c.words.invariant in
    cut_empty _ i.0 _ _ (fit_cut _ _ _ i.1) (sym c.word_end.ensures ∙ c.in-Some.is) c.if-rest-at-ne32.false c.if-at-eq0.true

pub words-preserved : goal.words-preserved
words-preserved c =
    let i = c.words.invariant in
    let word = c.split_at.result.0.now in
    let back = c.split_at-in-Some.ensures.back ∙ ap (λ (xs : List ℕ). drop 1 xs) c.split_at.ensures.back in
    let some : 0 < c.in-Some.at = omega (arith, c.if-at-eq0.false) in
    let fit = fit_more _ i.0 word _ _ _ i.1 (sym c.word_end.ensures ∙ c.in-Some.is) c.if-rest-at-ne32.false some c.split_at.ensures.front back in
    let more = length-append i.0 (word ∷ []) in
    (i.0 ++ word ∷ [], fit, first_kept i.0 _ _ word c.keep.ensures i.2, omega (arith, more, i.3), omega (arith, more, i.4, c.split_at.ensures.back_len, c.split_at-in-Some.ensures.back_len, c.split_at.ensures.front_len, some))

pub returns-then-is_empty-clause-unfit : goal.returns-then-is_empty-clause-unfit
returns-then-is_empty-clause-unfit c = let i = c.words.invariant in unfit_none _ i.0 _ _ i.1 (sym c.is_empty.ensures ∙ c.if-is_empty.true) i.3

pub returns-then-is_empty-clause-unworded : goal.returns-then-is_empty-clause-unworded
returns-then-is_empty-clause-unworded c = let i = c.words.invariant in cut_none _ i.0 _ (fit_cut _ _ _ i.1) (sym c.is_empty.ensures ∙ c.if-is_empty.true)

pub returns-clause-found : goal.returns-clause-found
returns-clause-found c =
    let i = c.words.invariant in
    let last = fit_last _ i.0 _ i.1 (sym c.word_end.ensures ∙ c.in_default.is) (sym c.is_empty.ensures ∙ c.if-is_empty.false) in
    first_kept i.0 _ _ _ c.keep-2.ensures i.2 ∙ ap (λ (ws : List (List ℕ)). take 5 ws) (sym last.0)

pub returns-clause-worded : goal.returns-clause-worded
returns-clause-worded c =
    let i = c.words.invariant in
    (fit_last _ i.0 _ i.1 (sym c.word_end.ensures ∙ c.in_default.is) (sym c.is_empty.ensures ∙ c.if-is_empty.false)).1
