use Rattle.ele_state.proofs.Words.{◌≡◌, None, arith, nat_tests, sym, world_of, ◌∙◌}
use Rattle.ele_model.specs.Change.{Time, after_change}
use Rattle.ele_state.proofs.Questions.{keys_by, none_due, scan_is}
use Rattle.ele_state.proofs.State.due_by.Goals as goal

pub returns-then-is_none-clause-keys : goal.returns-then-is_none-clause-keys
returns-then-is_none-clause-keys c =
    let none : c.first_by.result ≡ None = grind (arith, nat_tests, c.is_none.ensures, c.if-is_none.true) in
    rw c.new.ensures (none_due _ (sym c.first_by.ensures ∙ none))

pub returns-clause-keys : goal.returns-clause-keys
returns-clause-keys c = rw (← c.self.view_is) (grind (arith, nat_tests, keys_by c.self.inside.rows c.args.moment c.self.invariant.sound, scan_is (after_change (world_of c.self.inside.rows) (Time c.args.moment))))
