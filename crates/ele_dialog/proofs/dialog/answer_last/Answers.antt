use Rattle.ele_dialog.proofs.Next.{last_handed}
use Rattle.ele_dialog.proofs.dialog.answer_last.Goals as goal

pub returns : goal.returns
returns g c = last_handed _ _ _ _ c.hand_over.result c.put_cut.ensures c.hand_over.ensures
