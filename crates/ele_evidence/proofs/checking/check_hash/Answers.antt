use Rattle.ele_evidence.proofs.Basics.{List, ap, refl, sym, ℕ, ◌++◌, ◌∙◌}
use Rattle.ele_evidence.proofs.checking.check_hash.Goals as goal

pub returns-in-Some : goal.returns-in-Some
returns-in-Some c =
    (c.below-line.ensures, c.in-Some.ensures ∙ ap (λ (l : List ℕ). l ++ c.in-Some.after.now) (c.bytes.ensures ∙ c.below-line.ensures))

pub returns-in-None : goal.returns-in-None
returns-in-None c =
    (refl, λ more e. c.in-None.ensures more (e ∙ ap (λ (l : List ℕ). l ++ more) (sym (c.bytes.ensures ∙ c.below-line.ensures))))
