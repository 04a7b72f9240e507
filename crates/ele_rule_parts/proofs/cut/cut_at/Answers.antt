use Rattle.std.proofs.Common.{◌∙◌, ap, drop, List, ℕ}
use Rattle.std.proofs.lemmas.List.{drop-drop}
use Rattle.ele_rule_parts.proofs.Cuts.{before_is, after_is, has_mark, no_mark}
use Rattle.ele_rule_parts.proofs.cut.cut_at.Goals as goal

pub returns-in_default-clause-none : goal.returns-in_default-clause-none
returns-in_default-clause-none c = λ none. no_mark c.args.mark c.args.word.now (rw c.in_default.is at c.memchr.ensures)

pub returns-clause-some : goal.returns-clause-some
returns-clause-some c = has_mark c.args.mark c.args.word.now c.in-Some.at c.in-Some.ensures

pub returns-clause-before : goal.returns-clause-before
returns-clause-before c = c.split_at.ensures.front ∙ before_is c.args.mark c.args.word.now c.in-Some.at c.in-Some.ensures

pub returns-clause-after : goal.returns-clause-after
returns-clause-after c =
    c.split_at-2.ensures.back ∙ ap (λ (xs : List ℕ). drop 1 xs) c.split_at.ensures.back ∙ drop-drop 1 c.in-Some.at c.args.word.now ∙ after_is c.args.mark c.args.word.now c.in-Some.at c.in-Some.ensures
