use Rattle.ele_files.proofs.Lemmas.{any_draft, arith, draft_lives, nat_tests, sym, wrote, ◌∙◌}
use Rattle.ele_files.proofs.files.Files.write.Goals as goal

pub invariant_of-self : goal.invariant_of-self
invariant_of-self c = (wrote _ _ _ c.self.invariant _ _ c.write_draft.ensures.orderly _ _ _ _ c.write_draft.ensures.writes c.write_draft.ensures.err).0

pub write_draft-requires-clause-there : goal.write_draft-requires-clause-there
write_draft-requires-clause-there c = sym (any_draft c.self.inside.store c.args.file c.self.inside.sessions.drafts) ∙ rw (← c.self.view_is) at c.requires.there

pub write_draft-requires-clause-lives : goal.write_draft-requires-clause-lives
write_draft-requires-clause-lives c = grind (arith, nat_tests, draft_lives)

pub returns-clause-ok : goal.returns-clause-ok
returns-clause-ok c = rw (← c.self.view_is) (wrote _ _ _ c.self.invariant _ _ c.write_draft.ensures.orderly _ _ _ _ c.write_draft.ensures.writes c.write_draft.ensures.err).1
