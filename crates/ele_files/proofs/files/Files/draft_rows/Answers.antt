use Rattle.ele_files.proofs.Lemmas.{arith, draft_lives, draft_next, draft_there, nat_tests}
use Rattle.ele_files.proofs.files.Files.draft_rows.Goals as goal
use Rattle.std.proofs.lemmas.Grind.{common_steps, elements}

pub unreachable-requires : goal.unreachable-requires
unreachable-requires c = grind (arith, elements)

pub unreachable-requires-in_default-draft : goal.unreachable-requires-in_default-draft
unreachable-requires-in_default-draft c =
    draft_there c.self.inside.store c.self.inside.sessions.drafts c.drafts_open.ensures.orderly.drafts_rise c.loop-place.place c.in-Some.draft c.in-Some.ensures c.in_default-draft.ensures.map

pub copy_cells-requires-clause-lives : goal.copy_cells-requires-clause-lives
copy_cells-requires-clause-lives c = grind (arith, nat_tests, draft_lives)

pub loop-place-preserved : goal.loop-place-preserved
loop-place-preserved c = grind (arith, nat_tests, draft_next)

pub returns : goal.returns
returns c = grind (arith, common_steps)
