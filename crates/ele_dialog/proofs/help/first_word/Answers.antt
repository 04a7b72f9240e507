use Rattle.std.proofs.Common.{◌∙◌}
use Rattle.ele_dialog.proofs.Helped.{word_at, word_never}
use Rattle.ele_dialog.proofs.help.first_word.Goals as goal

pub returns-in-Some : goal.returns-in-Some
returns-in-Some c = c.split_at.ensures.front ∙ word_at _ _ c.in-Some.ensures

pub returns-in-None : goal.returns-in-None
returns-in-None c = word_never _ c.in-None.ensures
