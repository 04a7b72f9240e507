use Rattle.ele_embed.proofs.Store.line.Goals as goal

pub returns-clause-long : goal.returns-clause-long
returns-clause-long c = rw (c.tell.ensures.state, c.tell.ensures.said) c.tell.ensures.long
