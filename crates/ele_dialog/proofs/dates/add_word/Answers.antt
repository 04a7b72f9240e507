use Rattle.std.proofs.Common.{Bool, ap, ◌∙◌, ◌∷◌}
use Rattle.ele_dialog.proofs.Dated.{add_loose_word, add_moment_word, add_other_word, no_columns}
use Rattle.ele_dialog.proofs.dates.add_word.Goals as goal

pub returns-in_ok-add_moments-in-Some : goal.returns-in_ok-add_moments-in-Some
returns-in_ok-add_moments-in-Some c =
    add_moment_word _ _ _ _ _ _ _ (c.in-Some.ensures.cases.0 ∙ ap (λ (is : Bool). is ∷ c.in-Some.behind.now) c.if-is_moment.true) c.in_ok-add_moments-in-Some.ensures

pub returns-else-is_moment : goal.returns-else-is_moment
returns-else-is_moment c =
    add_other_word _ _ _ _ _ (c.in-Some.ensures.cases.0 ∙ ap (λ (is : Bool). is ∷ c.in-Some.behind.now) c.if-is_moment.false)

pub returns-in-None : goal.returns-in-None
returns-in-None c = add_loose_word _ _ _ _ _ (no_columns _ c.in-None.ensures.cases) c.columns_behind.ensures
