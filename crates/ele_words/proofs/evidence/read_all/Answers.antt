use Rattle.ele_words.proofs.evidence.read_all.Goals as goal

pub returns-in-Ok-clause-ok : goal.returns-in-Ok-clause-ok
returns-in-Ok-clause-ok g c = rw c.new-text.ensures.items at c.read_to_end.ensures.none_lost
