use Rattle.std.proofs.Common.{◌≡◌, ◌≤◌, ◌+◌, ◌∙◌, ◌∷◌, ℕ, suc, List, length, arith, ap, refl, sym, subst, true, false, drop}
use Rattle.std.proofs.lemmas.Option.{slice_get_read}
use Rattle.ele_lists.specs.Lists.{AllLater}
use Rattle.ele_forecast.specs.StaysBehind.{kept_from}
use Rattle.ele_forecast.proofs.Kept.{all_behind, are_kept, kept_all, kept_on, rise_behind}
use Rattle.ele_forecast.proofs.closings.Closings.staying.Goals as goal
use Rattle.ele_forecast.proofs.closings.Closings.staying.Goals.{then-stays+in_ok-push, else-stays}

pub stays-requires : goal.stays-requires
stays-requires c =
    let come = c.come_by-come.result.now in
    let place = c.loop-place.place in
    let there = slice_get_read come (length come) place c.index-come-place.result refl c.loop-place-test.true c.index-come-place.is in
    let same : suc place ≡ place + 1 = omega arith in
    let rises = subst (λ (i : ℕ). AllLater ◌≤◌ (c.index-come-place.result ∷ drop i come)) same (rise_behind come place c.index-come-place.result c.come_by-come.ensures.rise there) in
    subst (λ (xs : List ℕ). AllLater ◌≤◌ (c.index-come-place.result ∷ xs)) (sym (all_behind come (place + 1))) rises

pub loop-place-preserved : goal.loop-place-preserved
loop-place-preserved c =
    let come = c.come_by-come.result.now in
    let place = c.loop-place.place in
    let there = slice_get_read come (length come) place c.index-come-place.result refl c.loop-place-test.true c.index-come-place.is in
    let on = kept_on c.args.policy.now c.args.at come place c.loop-place.numbers.items c.loop-place.invariant c.index-come-place.result _ in
    elim c.if-stays.branch [
      | then-stays+in_ok-push w ↦ on true c.if-stays.numbers.items there (all_behind come (place + 1)) (sym w.if-stays.true ∙ c.stays.ensures) (cc (w.numbers-is, w.in_ok-push.ensures.items))
      | else-stays w ↦ on false c.if-stays.numbers.items there (all_behind come (place + 1)) (sym w.if-stays.false ∙ c.stays.ensures) (cc (w.numbers-is))
    ]

pub returns : goal.returns
returns c w file now is =
    let come = c.come_by-come.result.now in
    let past = kept_all c.args.policy.now c.args.at come c.loop-place.place c.loop-place.numbers.items c.loop-place.invariant (omega arith) in
    past ∙ ap (kept_from c.args.policy.now c.args.at 1) c.come_by-come.ensures.come ∙ are_kept c.args.policy.now c.args.self.now c.args.at (subst (AllLater ◌≤◌) c.come_by-come.ensures.come c.come_by-come.ensures.rise) w file now is
