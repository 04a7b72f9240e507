use Rattle.std.proofs.Common.{ℕ, List, sym, subst}
use Rattle.ele_tool_words.specs.ByClock.{SpellsBy}
use Rattle.ele_outlook.proofs.row.row_of.Goals as goal

pub returns-in_default-clause-err : goal.returns-in_default-clause-err
returns-in_default-clause-err c = λ moment offset h.
    let e = c.in_default.ensures.only moment offset (subst (λ (time : List ℕ). SpellsBy c.args.form.clock time moment offset) (sym c.time_of.ensures) h) in
    absurd cc
