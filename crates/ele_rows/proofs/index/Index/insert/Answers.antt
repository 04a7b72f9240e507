use Rattle.ele_rows.proofs.index.Index.insert.Goals as goal

pub returns-clause-ok : goal.returns-clause-ok
returns-clause-ok g c = λ q r s. c.in_ok-_new.ensures.updates.0 (q, r, s)
