use Rattle.std.proofs.Common.{◌∙◌, List, ap}
use Rattle.std.proofs.lemmas.Bool.{false≢true}
use Rattle.std.specs.Prelude.{Some}
use Rattle.ele_policy.specs.Ladder.{Rung}
use Rattle.ele_policy.specs.declared.policy.Policy.{Policy}
use Rattle.ele_policy.specs.declared.policy.Policy.TheVariants.{Landmarks}
use Rattle.ele_tool_words.proofs.Words.{same_ladder}
use Rattle.ele_tool_words.proofs.policy.read_landmarks.Goals as goal

pub returns-in_default-new-clause-only : goal.returns-in_default-new-clause-only
returns-in_default-new-clause-only c policy is =
    let ladder = same_ladder c.args.text.now c.in-Some.rungs.items policy c.in-Some.ensures.some is in
    absurd (false≢true (c.in_default-new.ensures.valid.1 (rw c.as_slice.ensures.value ladder.0)))

pub returns-clause-only : goal.returns-clause-only
returns-clause-only c policy is =
    let ladder = same_ladder c.args.text.now c.in-Some.rungs.items policy c.in-Some.ensures.some is in
    let same = ap (λ (rs : List Rung). Landmarks rs) (c.in-Ok.ensures.value ∙ c.as_slice.ensures.value) in
    ap (λ (p : Policy). Some p) (same ∙ ladder.1)
