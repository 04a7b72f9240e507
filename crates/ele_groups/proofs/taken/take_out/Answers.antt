use Rattle.ele_groups.proofs.Basics.{sym, ◌∙◌, remove_first-none}
use Rattle.ele_groups.proofs.taken.take_out.Goals as goal

pub returns-in_default : goal.returns-in_default
returns-in_default g c = sym (remove_first-none (λ x. g.T.PartialEq.eq x c.args.item.now) c.args.items.now.items (rw c.deref.ensures.value at (sym c.place_in.ensures ∙ c.in_default.is)))
