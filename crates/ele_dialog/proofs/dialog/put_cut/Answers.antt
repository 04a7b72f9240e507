use Rattle.ele_dialog.proofs.dialog.put_cut.Goals as goal

pub returns : goal.returns
returns g c = rw c.cut_text.ensures at c.put.ensures
