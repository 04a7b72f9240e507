use Rattle.ele_state.proofs.Words.{ap, file_at, sym, ◌∙◌}
use Rattle.ele_state.proofs.Walked.{files_live, files_there}
use Rattle.ele_state.proofs.State.file_now.Goals as goal

pub returns-in-Ok-clause-there : goal.returns-in-Ok-clause-there
returns-in-Ok-clause-there c = rw (← c.self.view_is) (files_there c.self.inside.rows c.self.invariant.sound c.args.path.now c.file_in.result (c.file_in.ensures ∙ ap file_at (sym c.in-Ok.is ∙ c.resolve_now.ensures)))

pub returns-in-Ok-clause-live : goal.returns-in-Ok-clause-live
returns-in-Ok-clause-live c = rw (← c.self.view_is) (files_live c.self.inside.rows c.self.invariant.sound c.args.path.now c.file_in.result (c.file_in.ensures ∙ ap file_at (sym c.in-Ok.is ∙ c.resolve_now.ensures)))
