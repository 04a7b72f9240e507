use Rattle.ele_script.proofs.Basics.{◌∙◌, ap, map, rules}
use Rattle.ele_script.proofs.Prelude.{Syntax}
use Rattle.ele_script.proofs.Laws.{only_read, only_refused, spelled_faultless, fault_of_line}
use Rattle.ele_script.proofs.Words.{unfit_line}
use Rattle.ele_script.proofs.reading.read_line_in.Goals as goal

pub returns-then-not-cut_words-clause-only : goal.returns-then-not-cut_words-clause-only
returns-then-not-cut_words-clause-only c = λ asked h. absurd (spelled_faultless c.one_meaning.ensures _ asked Syntax h (unfit_line c.args.line.now c.if-line-gt-LONGEST_LINE.false (c.cut_words.ensures.none c.if-not-cut_words.true)))

pub returns-clause-fault : goal.returns-clause-fault
returns-clause-fault c =
    fault_of_line _ c.args.line.now (map (λ word. word.now) c.as_slice.result.now) c.line_of.result c.if-line-gt-LONGEST_LINE.false (c.cut_words.ensures.worded c.if-not-cut_words.false) (ap (λ words. map (λ word. word.now) words) c.as_slice.ensures.value ∙ c.cut_words.ensures.found c.if-not-cut_words.false) c.line_of.ensures.fault

pub returns-clause-only : goal.returns-clause-only
returns-clause-only c = only_read c.one_meaning.ensures c.args.line.now c.line_of.result (search rules) (returns-clause-fault c)

pub returns-clause-refused : goal.returns-clause-refused
returns-clause-refused c = only_refused c.one_meaning.ensures c.args.line.now c.line_of.result (search rules) (returns-clause-fault c)
