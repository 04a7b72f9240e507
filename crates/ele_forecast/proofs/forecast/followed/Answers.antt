use Rattle.std.proofs.Common.{ℕ, Bool, Option, Some, None, sym, subst, ◌∙◌}
use Rattle.ele_policy.specs.RipeCase.{IsRipe, case_of}
use Rattle.ele_forecast.specs.declared.forecast.Why.TheVariants.{Goes}
use Rattle.ele_forecast.proofs.Followed.{goes_for, tells_of, told_alone}
use Rattle.ele_forecast.proofs.Ages.{reason_of}
use Rattle.ele_forecast.proofs.forecast.followed.Goals as goal

pub cause-cause-requires : goal.cause-cause-requires
cause-cause-requires c = told_alone (case_of c.args.policy.now c.args.closed (Some c.args.ended) c.meets_floor-floor_met.result) c.args.ended c.in-Some.moment (sym c.ripe.ensures.near ∙ c.in-Some.is)

pub returns-in-Some-clause-tells : goal.returns-in-Some-clause-tells
returns-in-Some-clause-tells c v row next is closes ends numbered =
    let answer = subst (λ (x : Option ℕ). IsRipe (case_of c.args.policy.now c.args.closed (Some c.args.ended) c.meets_floor-floor_met.result) c.args.ended x) c.in-Some.is c.ripe.ensures.value in
    let ripe = subst (λ (met : Bool). IsRipe (case_of c.args.policy.now c.args.closed (Some c.args.ended) met) c.args.ended (Some c.in-Some.moment)) c.meets_floor-floor_met.ensures answer in
    tells_of c.args.policy.now v row next c.args.newer is c.args.closed c.args.ended (Some c.in-Some.moment) closes ends c.args.number (Goes c.cause-cause.result) c.told.result c.told.ensures ripe
    (λ ripens. goes_for c.args.policy.now v row next c.args.newer is c.args.closed c.args.ended c.in-Some.moment c.after.result c.cause-cause.result closes ends (numbered ∙ sym c.after.ensures) ripens c.cause-cause.ensures)

pub returns-in-None-clause-tells : goal.returns-in-None-clause-tells
returns-in-None-clause-tells c v row next is closes ends numbered =
    let answer = subst (λ (x : Option ℕ). IsRipe (case_of c.args.policy.now c.args.closed (Some c.args.ended) c.meets_floor-floor_met.result) c.args.ended x) c.in-None.is c.ripe.ensures.value in
    let ripe = subst (λ (met : Bool). IsRipe (case_of c.args.policy.now c.args.closed (Some c.args.ended) met) c.args.ended None) c.meets_floor-floor_met.ensures answer in
    let never = c.in-None.ensures.never in
    tells_of c.args.policy.now v row next c.args.newer is c.args.closed c.args.ended None closes ends c.args.number c.why_never-why.result c.told-in-None.result c.told-in-None.ensures ripe
    (reason_of c.args.policy.now v row next c.args.newer is c.args.closed c.args.ended closes ends c.meets_floor-floor_met.result c.meets_floor-floor_met.ensures c.why_never-why.result c.why_never-why.ensures never)
