use Rattle.ele_embed.proofs.Store.tell.Goals as goal

pub returns-then-is_err-clause-long : goal.returns-then-is_err-clause-long
returns-then-is_err-clause-long c = rw (← c.self.view_is) c.write_said-told.ensures.long
