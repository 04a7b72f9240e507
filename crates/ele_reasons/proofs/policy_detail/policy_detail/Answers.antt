use Rattle.ele_reasons.proofs.Basics.{ap, ◌∙◌}
use Rattle.ele_reasons.proofs.PolicyDetail.{kept_detail}
use Rattle.ele_reasons.specs.PolicyDetail.{ladder_detail, of_ladder, of_safe}
use Rattle.ele_reasons.proofs.policy_detail.policy_detail.Goals as goal

pub returns-in-Some : goal.returns-in-Some
returns-in-Some c = of_safe c.in-Some.seconds c.in-Some.floor c.in-Some.ensures.some c.safe_detail.ensures

pub returns-in-Some-ladder_pairs : goal.returns-in-Some-ladder_pairs
returns-in-Some-ladder_pairs c =
    let keeps = c.in-Some-ladder_pairs.ensures.some in
    of_ladder keeps.pairs keeps.is (c.ladder_detail.ensures ∙ ap ladder_detail (c.as_slice.ensures.value ∙ keeps.first) ∙ kept_detail keeps.pairs)
