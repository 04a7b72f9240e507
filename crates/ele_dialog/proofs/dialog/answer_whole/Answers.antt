use Rattle.ele_dialog.proofs.Next.{whole_handed}
use Rattle.ele_dialog.proofs.dialog.answer_whole.Goals as goal

pub returns-in-Ok : goal.returns-in-Ok
returns-in-Ok g c = whole_handed _ _ _ _ _ _ _ c.hand_over.result c.in-Ok.ensures.ok c.hand_over.ensures
