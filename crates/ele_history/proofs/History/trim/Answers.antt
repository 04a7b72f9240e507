use Rattle.std.proofs.Common.{◌≡◌, ◌+◌, ◌∙◌, arith}
use Rattle.ele_history.specs.Past.{Past, count_of, world_of}
use Rattle.ele_history.proofs.Trims.{trims}
use Rattle.ele_history.proofs.History.trim.Goals as goal

pub invariant_of-self : goal.invariant_of-self
invariant_of-self g c =
    let h = c.self.inside in
    let past : Past = record { base = h.base; folded = h.folded; entries = h.entries.items } in
    let base : c.in_ok-base.base ≡ world_of past = c.in_ok-base.ensures ∙ c.self.invariant.world in
    let folded : h.folded + c.len-count.result ≡ count_of past = omega arith in
    rw (base, folded, c.new.ensures.items) (trims c.always_well_formed.ensures.runs c.step_keeps_well_formed.ensures c.numbers_rise.ensures past (g.C.Step.world h.core) c.self.invariant)
