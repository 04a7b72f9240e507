use Rattle.ele_files.proofs.Lemmas.{any_draft, arith, cut, draft_lives, nat_tests, sym, ◌∙◌}
use Rattle.ele_files.proofs.files.Files.truncate.Goals as goal

pub invariant_of-self : goal.invariant_of-self
invariant_of-self c = (cut _ _ _ c.self.invariant _ _ c.truncate_draft.ensures.orderly _ _ _ c.truncate_draft.ensures.refits c.truncate_draft.ensures.err).0

pub truncate_draft-requires-clause-there : goal.truncate_draft-requires-clause-there
truncate_draft-requires-clause-there c = sym (any_draft c.self.inside.store c.args.file c.self.inside.sessions.drafts) ∙ rw (← c.self.view_is) at c.requires.there

pub truncate_draft-requires-clause-lives : goal.truncate_draft-requires-clause-lives
truncate_draft-requires-clause-lives c = grind (arith, nat_tests, draft_lives)

pub returns-clause-ok : goal.returns-clause-ok
returns-clause-ok c = rw (← c.self.view_is) (cut _ _ _ c.self.invariant _ _ c.truncate_draft.ensures.orderly _ _ _ c.truncate_draft.ensures.refits c.truncate_draft.ensures.err).1
