use Rattle.ele_rows.proofs.index.Index.remove.Goals as goal

pub returns : goal.returns
returns g c = λ q r s. c.remove-was.ensures.updates.0 (q, r, s)
