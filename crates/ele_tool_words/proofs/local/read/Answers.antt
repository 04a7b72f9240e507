use Rattle.ele_tool_words.proofs.local.read.Goals as goal

pub returns-in-Ok-clause-only : goal.returns-in-Ok-clause-only
returns-in-Ok-clause-only c = λ m h. let e = c.in-Ok.ensures.only m h in cc
