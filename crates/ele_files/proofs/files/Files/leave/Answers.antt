use Rattle.ele_files.proofs.Lemmas.{ap, closed, given_lives, held_of, left_by, option_and_then, sym, IsSeen, leaves, ◌∙◌}
use Rattle.ele_files.proofs.files.Files.leave.Goals as goal
use Rattle.ele_files.proofs.files.Files.leave.Goals.{After-give_up}

left : (c : After-give_up) → IsSeen c.give_up.new.store c.self.inside.files.items (closed c.self.inside.sessions c.args.handle.now.row.number) (left_by (held_of c.self.inside) c.args.handle.now.row.number)
left c = leaves _ _ _ c.args.handle.now.row.number c.self.invariant c.give_up.new.store (rw (← c.close_found-closing.ensures.answer) c.give_up.ensures)

pub invariant_of-self : goal.invariant_of-self
invariant_of-self c = rw c.close_found-closing.ensures.sessions (left c).keeps

pub returns : goal.returns
returns c = rw (← c.self.view_is, c.close_found-closing.ensures.sessions) (left c).shows

pub give_up-requires : goal.give_up-requires
give_up-requires c m is = given_lives _ _ _ c.args.handle.now.row.number c.self.invariant m (ap (option_and_then (λ answer. answer.1)) (sym c.close_found-closing.ensures.answer) ∙ is)
