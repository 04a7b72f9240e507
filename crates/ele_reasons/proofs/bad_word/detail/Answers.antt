use Rattle.ele_reasons.proofs.bad_word.detail.Goals as goal

pub returns-in-Policy : goal.returns-in-Policy
returns-in-Policy c = rw c.in-Policy.is c.policy_detail.ensures
