use Rattle.ele_groups.proofs.Basics.{sym, ◌∙◌, remove_first-none}
use Rattle.ele_groups.proofs.Words.{is_mark}
use Rattle.ele_groups.proofs.marks.take_at.Goals as goal

pub returns-in_default : goal.returns-in_default
returns-in_default c = sym (remove_first-none (is_mark c.args.moment) c.args.marks.now.items (rw c.deref.ensures.value at (sym c.place_at.ensures ∙ c.in_default.is)))
