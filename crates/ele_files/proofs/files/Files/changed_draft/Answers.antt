use Rattle.ele_files.proofs.Lemmas.{ap, opening_of, ◌∙◌, opening_shown}
use Rattle.ele_files.proofs.files.Files.changed_draft.Goals as goal

pub returns : goal.returns
returns c =
    c.opening_of.ensures ∙ ap opening_of c.peek_close_found.ensures ∙ rw (← c.self.view_is) (opening_shown c.self.inside.store c.self.inside.files.items c.self.inside.sessions c.args.handle.now.row.number)
