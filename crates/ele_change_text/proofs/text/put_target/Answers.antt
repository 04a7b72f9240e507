use Rattle.ele_change_text.proofs.text.put_target.Goals as goal

pub returns-in-Directory : goal.returns-in-Directory
returns-in-Directory g c = rw (c.in-Directory.is, ← c.directory.view_is) c.put_with_number-in-Directory.ensures
