use Rattle.ele_state.proofs.Words.{◌≡◌, None, arith, nat_tests, sym, world_of, ◌∙◌}
use Rattle.ele_state.proofs.Questions.{due_keys, none_due, scan_is}
use Rattle.ele_state.proofs.State.due.Goals as goal

pub returns-then-is_none : goal.returns-then-is_none
returns-then-is_none c =
    let none : c.due_first.result ≡ None = grind (arith, nat_tests, c.is_none.ensures, c.if-is_none.true) in
    rw c.new.ensures (none_due _ (sym c.due_first.ensures ∙ none))

pub returns : goal.returns
returns c = rw (← c.self.view_is) (grind (arith, nat_tests, due_keys c.self.inside.rows c.self.invariant.sound, scan_is (world_of c.self.inside.rows)))
