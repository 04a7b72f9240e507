use Rattle.std.proofs.Common.{ℕ, Bool, true, List, sym, subst}
use Rattle.ele_moment.specs.Number.{SpellsNumber}
use Rattle.ele_tool_words.specs.Length.{SpellsLength}
use Rattle.ele_tool_words.specs.PolicyWord.{SpellsSafe}
use Rattle.ele_tool_words.proofs.safe.safe_numbers.Goals as goal

pub returns-clause-only : goal.returns-clause-only
returns-clause-only c seconds floor is =
    let both : SpellsSafe true c.args.text.now seconds floor = subst (λ (b : Bool). SpellsSafe b c.args.text.now seconds floor) c.in-Some.ensures.some is in
    c.with_floor.ensures.only seconds floor (subst (λ (w : List ℕ). SpellsLength w seconds) (sym c.in-Some.ensures.before) both.0) (subst (λ (w : List ℕ). SpellsNumber w floor) (sym c.in-Some.ensures.behind) both.1)
