use Rattle.ele_reasons.proofs.Basics.{ℕ, List, Bor, map, ap, ◌∙◌}
use Rattle.ele_reasons.proofs.WhyBad.{line_fault, line_memory, line_none, line_some}
use Rattle.ele_script.specs.Words.{words_of}
use Rattle.ele_reasons.proofs.bad_word.reason.Goals as goal

abbrev words : List (Bor (List ℕ)) → List (List ℕ)
words all = map (λ (word : Bor (List ℕ)). word.now) all

pub returns-in-Ok-clause-some : goal.returns-in-Ok-clause-some
returns-in-Ok-clause-some c =
    line_some _ c.args.line.now (words c.as_slice.result.now) c.words_reason.result c.if-line-gt-LONGEST_LINE.false (c.in-Ok.ensures.worded) (ap words c.as_slice.ensures.value ∙ c.in-Ok.ensures.found) c.words_reason.ensures.some

pub returns-in-Ok-clause-fault : goal.returns-in-Ok-clause-fault
returns-in-Ok-clause-fault c =
    line_fault _ c.args.line.now (words c.as_slice.result.now) c.words_reason.result c.if-line-gt-LONGEST_LINE.false (c.in-Ok.ensures.worded) (ap words c.as_slice.ensures.value ∙ c.in-Ok.ensures.found) c.words_reason.ensures.some

pub returns-in-Ok-clause-none : goal.returns-in-Ok-clause-none
returns-in-Ok-clause-none c =
    line_none _ c.one_meaning.ensures c.args.line.now (words c.as_slice.result.now) c.words_reason.result c.if-line-gt-LONGEST_LINE.false (c.in-Ok.ensures.worded) (ap words c.as_slice.ensures.value ∙ c.in-Ok.ensures.found) c.words_reason.ensures.none

pub returns-in-Ok-clause-memory : goal.returns-in-Ok-clause-memory
returns-in-Ok-clause-memory c =
    line_memory _ (words_of c.args.line.now) (words c.as_slice.result.now) c.words_reason.result (ap words c.as_slice.ensures.value ∙ c.in-Ok.ensures.found) c.words_reason.ensures.memory
