use Rattle.ele_names.proofs.Lemmas.{◌≡◌, ℕ, List, Some, ap, refl, sym, ◌∙◌, exact, found, found_target, its_name, kept_dead, killed, live_at, named_place, names_of}
use Rattle.ele_names.proofs.names.Names.kill_found.Goals as goal

live_is : (c : goal.After-end-arg-1) → live_at c.self.inside.live_names c.args.directory c.args.name.now ≡ Some c.in-Some-live_of.live
live_is c = sym (c.live_of.ensures c.args.directory c.args.name.now (sym c.in-Some.ensures.some.0)) ∙ c.in-Some-live_of.is

pub end-requires : goal.end-requires
end-requires c = rw (found c.self.inside c.self.invariant c.args.directory c.args.name.now c.in-Some-live_of.live (live_is c)).there refl

pub invariant_of-self : goal.invariant_of-self
invariant_of-self c =
    let a = c.self.inside in
    let kept = c.self.invariant in
    let d = c.args.directory in
    let n = c.args.name.now in
    let live = c.in-Some-live_of.live in
    let is = sym (c.live_of.ensures d n (sym c.in-Some.ensures.some.0)) ∙ c.in-Some-live_of.is in
    let its = found a kept d n live is in
    let name = its_name a kept d n live is in
    let number = named_place (names_of a.live_names) d n its.row name.0 ∙ sym c.in-Some.ensures.some.0 in
    let directory = ap (λ (k : ℕ × List ℕ). k.0) (exact (its.row.directory, its.row.name) (d, n) name.0) in
    kept_dead a kept live.serial its.row its.there name.1 c.args.moment _ _ c.end-3.ensures.names (c.end-3.ensures.listed kept.listed)
    c.end-2.ensures.named (c.end-2.ensures.chained _) (c.end.ensures its.row its.there)
    (λ was now. c.end-3.ensures.counted its.row was now number directory name.1) (λ at to serial. c.end-3.ensures.numbered its.row at to serial number)
    (rw (found_target a kept d n live is) at c.end-2.ensures.live)

pub returns : goal.returns
returns c =
    let a = c.self.inside in
    let kept = c.self.invariant in
    let d = c.args.directory in
    let n = c.args.name.now in
    let live = c.in-Some-live_of.live in
    let is = sym (c.live_of.ensures d n (sym c.in-Some.ensures.some.0)) ∙ c.in-Some-live_of.is in
    let its = found a kept d n live is in
    let name = its_name a kept d n live is in
    rw (← c.self.view_is, c.end.ensures its.row its.there) (killed a kept live.serial its.row its.there name.1 c.args.moment d n name.0)
