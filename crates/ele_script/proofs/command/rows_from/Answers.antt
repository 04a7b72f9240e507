use Rattle.ele_script.proofs.Basics.{refl}
use Rattle.ele_script.proofs.Letters.{rows_find}
use Rattle.ele_script.proofs.command.rows_from.Goals as goal

pub returns : goal.returns
returns c = rows_find c.args.letter c.first_row.result _ _ c.split_at.ensures.back refl c.first_row.ensures.finds
