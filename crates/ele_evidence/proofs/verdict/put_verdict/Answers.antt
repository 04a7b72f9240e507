use Rattle.ele_evidence.proofs.verdict.put_verdict.Goals as goal

pub returns-in-Whole : goal.returns-in-Whole
returns-in-Whole g c = rw c.in-Whole.is c.put_whole.ensures

pub returns-in-NoHead : goal.returns-in-NoHead
returns-in-NoHead g c = rw c.in-NoHead.is c.put.ensures

pub returns-in-Wrong : goal.returns-in-Wrong
returns-in-Wrong g c = rw c.in-Wrong.is c.put_wrong.ensures
