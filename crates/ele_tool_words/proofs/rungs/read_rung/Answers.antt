use Rattle.std.proofs.Common.{ℕ, List, sym, subst}
use Rattle.std.proofs.lemmas.Option.{none-some, same_Some}
use Rattle.ele_tool_words.specs.Length.{SpellsLength}
use Rattle.ele_tool_words.proofs.RungLists.{pair_same}
use Rattle.ele_tool_words.proofs.rungs.read_rung.Goals as goal

pub returns-in_default-read_length-2-clause-only : goal.returns-in_default-read_length-2-clause-only
returns-in_default-read_length-2-clause-only c rung is =
    absurd (none-some rung.1 (c.in_default-read_length-2.ensures.only rung.1 (subst (λ (w : List ℕ). SpellsLength w rung.1) (sym c.in-Some.ensures.behind) is.width)))

pub returns-clause-only : goal.returns-clause-only
returns-clause-only c rung is =
    pair_same c.in-Some-read_length.age c.in-Some-read_length-2.width rung
    (same_Some _ _ (c.in-Some-read_length.ensures.only rung.0 (subst (λ (w : List ℕ). SpellsLength w rung.0) (sym c.in-Some.ensures.before) is.age)))
    (same_Some _ _ (c.in-Some-read_length-2.ensures.only rung.1 (subst (λ (w : List ℕ). SpellsLength w rung.1) (sym c.in-Some.ensures.behind) is.width)))
