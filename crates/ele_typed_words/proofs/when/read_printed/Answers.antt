use Rattle.ele_typed_words.proofs.when.read_printed.Goals as goal

pub returns-in-Ok-clause-only : goal.returns-in-Ok-clause-only
returns-in-Ok-clause-only c = λ m h. let e = c.in-Ok.ensures.only m h in cc

pub returns-in-Err-clause-only : goal.returns-in-Err-clause-only
returns-in-Err-clause-only c = λ m h. let e = c.in-Err.ensures.only m h in absurd cc
